-- A request that a registered user signs under the nonce which is current at its source (RFC 8489,
-- sections 9.2.3 and 9.2.4).
use Rattle.std.specs.Prelude.{◌≡◌, ◌≤◌, ℕ, List, length, Some, None, Ok, IsUtf8, false}
use Rattle.std.specs.FinMap as fin
use Rattle.std.specs.declared.net.socket_addr.SocketAddr.{SocketAddr}
use Rattle.stun_base.specs.Credentials.{NameAndPassword}
use Rattle.stun_base.specs.Keys.{long_term_key}
use Rattle.stun_base.specs.declared.keys.algorithm.IntegrityAlgorithm.{IntegrityAlgorithm}
use Rattle.stun_base.specs.declared.keys.algorithm.IntegrityAlgorithm.TheVariants.{Sha1, Sha256}
use Rattle.stun_base.specs.declared.wire.message_type.MessageClass.TheVariants.{Request}
use Rattle.stun_types.specs.Limits.{TEXT_LIMIT, USERNAME_LIMIT}
use Rattle.stun_types.specs.Writing.{empty_message}
use Rattle.stun_judging.specs.declared.algorithm_set.AlgorithmSet.{AlgorithmSet}
use Rattle.stun_judging.specs.declared.algorithm_set.AlgorithmSet.TheVariants.{OnlySha1}
use Rattle.stun_judging.specs.declared.algorithm_set.AlgorithmSet.TheVariants.{OnlySha256, Both}
use Rattle.stun_judging.specs.Additions.{Page, added_all, page_of}
use Rattle.stun_judging.specs.Algorithms.{algorithms_of, contains}
use Rattle.stun_judging.specs.Registered.{of_password}
use Rattle.stun_judging.specs.Signed.{Added, additions_of, only_if}
use Rattle.stun_endpoint.specs.Nonces.{current_nonce}
use Rattle.stun_endpoint.specs.Settings.{Settings}
use Rattle.stun_datagrams.specs.Events.{UserSecrets}
use Rattle.stun_datagrams.specs.Sentence.{IsAcceptedFrom}

-- the strongest of the supported algorithms
abbrev pub strongest_in : AlgorithmSet → IntegrityAlgorithm
strongest_in OnlySha1 = Sha1
strongest_in OnlySha256 = Sha256
strongest_in Both = Sha256

-- what the user adds to the request: the nonce, the realm, the name, the list of algorithms and the
-- choice if the nonce asks for one, and the digest
abbrev pub added_by_user : AlgorithmSet → List ℕ → List ℕ → NameAndPassword → Added
added_by_user set nonce realm user = record {
  nonce = Some nonce;
  realm = Some realm;
  username = Some user.username;
  userhash = None;
  algorithms = only_if (contains Sha256 set) (algorithms_of set);
  algorithm = only_if (contains Sha256 set) (strongest_in set);
  integrity = Some (record {
    algorithm = strongest_in set;
    key = long_term_key (strongest_in set) user.username realm user.password;
  });
}

-- a user who is registered, with texts that fit their attributes
pub record IsUserOf (s : Settings) (users : UserSecrets) (user : NameAndPassword) : Type 0 where
  pub registered : fin.get users user.username ≡ Some (of_password user.password)
  pub realm_fits : length s.realm ≤ TEXT_LIMIT
  pub realm_text : IsUtf8 s.realm
  pub name_fits : length user.username ≤ USERNAME_LIMIT
  pub name_text : IsUtf8 user.username

-- a Binding request without attributes
unfoldable pub plain_binding_request : List ℕ
plain_binding_request = empty_message Request 1 7

-- the Binding request that the user signs, whatever its source and the time are
abbrev pub IsSignedRequest : Settings → NameAndPassword → SocketAddr → ℕ → Page → Type 0
IsSignedRequest s user from now page =
    added_all (additions_of
    (added_by_user s.algorithms (current_nonce s from now) s.realm user))
    (page_of plain_binding_request)
    ≡ Ok page

-- it can be signed, and it is accepted from that user with the strongest algorithm. It has no
-- FINGERPRINT, so the server must not require one
abbrev pub SignedRequestsAreAccepted : Type 0
SignedRequestsAreAccepted =
    (s : Settings) (users : UserSecrets) (user : NameAndPassword) (from : SocketAddr) (now : ℕ)
    → IsUserOf s users user → s.requires_fingerprint ≡ false
    → (page : Page) × IsSignedRequest s user from now page
    × IsAcceptedFrom s users from now page.bytes
    (record { name = user.username; algorithm = strongest_in s.algorithms })
