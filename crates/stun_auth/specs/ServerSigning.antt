-- What a server's signing adds to a message, one addition after another (RFC 8489, section 9.2.4).
-- Additions are written in this order, and refused in it. If the client's user was removed, only
-- the digest fails. `added_by_server` in Signed.antt lists the additions by attribute, which is
-- what a reader finds. `laws::sides_add_by_attribute` says that both add the same.
use Rattle.std.specs.Prelude.{[]}
use Rattle.std.specs.Prelude.{ℕ, ◌+◌, List, ◌∷◌, ◌++◌, Bool, if◌then◌else◌}
use Rattle.std.specs.Prelude.{Option, Some, None, Result, Ok, Err}
use Rattle.std.specs.declared.net.socket_addr.SocketAddr.{SocketAddr}
use Rattle.stun_base.specs.Algorithm.{digest_length}
use Rattle.stun_base.specs.declared.keys.algorithm.IntegrityAlgorithm.{IntegrityAlgorithm}
use Rattle.stun_base.specs.declared.wire.error.StunWriteError.{StunWriteError}
use Rattle.stun_base.specs.declared.wire.error.StunWriteError.TheVariants.{IntegrityFailed}
use Rattle.stun_types.specs.Attribute.{attribute_length}
use Rattle.stun_judging.specs.Additions.{Addition, Page, added_all, after}
use Rattle.stun_judging.specs.Additions.{attribute, growth, integrity}
use Rattle.stun_judging.specs.AddedAttribute as added
use Rattle.stun_judging.specs.Algorithms.{is_sha256}
use Rattle.stun_auth.specs.Places.{with_change, with_offer}
use Rattle.stun_judging.specs.Registered.{Registered, key_at}
use Rattle.stun_judging.specs.Verdict.{ClientSeen}
use Rattle.stun_auth.specs.Seen.{PlaceSeen}
use Rattle.stun_auth.specs.Server.{Sight}
use Rattle.stun_auth.specs.Validation.{ServerSeen}
use Rattle.stun_judging.specs.Challenge.{challenge, offer}

-- the algorithm of a client, which is named unless it is HMAC-SHA1
abbrev pub named_algorithm : IntegrityAlgorithm → List Addition
named_algorithm a = if is_sha256 a then attribute (added.password_algorithm a) ∷ [] else []

-- what follows nonce and realm: the offer, or the algorithm of a client
abbrev pub algorithms_for : Bool → Registered → Option ClientSeen → List Addition
algorithms_for response users None = offer response users
algorithms_for response users (Some c) = named_algorithm c.algorithm

-- the attributes before the digest, to an address with this nonce and this client
abbrev pub attributes_for : Bool → Registered → List ℕ → Option ClientSeen → List Addition
attributes_for response users nonce client =
    challenge response users nonce ++ algorithms_for response users client

-- the digest under the key of a user, or the refusal if the user or the key was removed
abbrev pub signed_under_key : IntegrityAlgorithm → Option (List ℕ) → Page
    → Result Page StunWriteError
signed_under_key a None page = Err IntegrityFailed
signed_under_key a (Some key) page = added_all (integrity a key ∷ []) page

-- the digest to a client; without a client there is none
abbrev pub protected_for : Registered → Option ClientSeen → Page → Result Page StunWriteError
protected_for users None page = Ok page
protected_for users (Some c) page =
    signed_under_key c.algorithm (key_at users c.name c.algorithm) page

-- the page after a message to an address is signed, or the first refusal in the order of the
-- attributes. Without a nonce the message is unchanged
abbrev pub signed_at : Bool → Registered → Option PlaceSeen → Page → Result Page StunWriteError
signed_at response users None page = Ok page
signed_at response users (Some p) page =
    after (added_all (attributes_for response users p.nonce p.client) page)
    (protected_for users p.client)

-- the page after signing, given the part of the server that concerns the address
abbrev pub server_signed : Sight → Bool → Page → Result Page StunWriteError
server_signed s response page = signed_at response s.registered s.place page

-- the digest under the key of a client, if there are such a user and key
abbrev pub digest_under : IntegrityAlgorithm → Option (List ℕ) → List Addition
digest_under a None = []
digest_under a (Some key) = integrity a key ∷ []

abbrev pub digest_for : Registered → Option ClientSeen → List Addition
digest_for users None = []
digest_for users (Some c) = digest_under c.algorithm (key_at users c.name c.algorithm)

-- all that is added to a message to an address, if there are such a user and key
abbrev pub additions_at : Bool → Registered → Option PlaceSeen → List Addition
additions_at response users None = []
additions_at response users (Some p) =
    attributes_for response users p.nonce p.client ++ digest_for users p.client

-- all that is added, given the part of the server that concerns the address
abbrev pub server_additions : Sight → Bool → List Addition
server_additions s response = additions_at response s.registered s.place

-- the number of bytes of the digest to a client, even if its user was removed
abbrev pub protection_growth : Option ClientSeen → ℕ
protection_growth None = 0
protection_growth (Some c) = attribute_length (digest_length c.algorithm)

-- the number of bytes that signing a message to an address adds
abbrev pub growth_at : Bool → Registered → Option PlaceSeen → ℕ
growth_at response users None = 0
growth_at response users (Some p) =
    growth (attributes_for response users p.nonce p.client) + protection_growth p.client

-- the number of bytes that signing adds, given the part of the server that concerns the address
abbrev pub server_growth : Sight → Bool → ℕ
server_growth s response = growth_at response s.registered s.place

-- the server after signing: it stores what a response offered
abbrev pub after_signing : ServerSeen → SocketAddr → Bool → ServerSeen
after_signing s to response =
    if response
    then record s { places = with_change s.places to (with_offer s.registered.algorithms) } else s
