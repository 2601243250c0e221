-- A reader finds in a request what it was made of (RFC 8489, sections 9.2.5 and 14).
use Rattle.std.specs.Prelude.{◌≡◌, ◌<◌, ◌^◌, ℕ, Bool, true, false, List, Option, Some, None, Ok, ⊤}
use Rattle.std.specs.Prelude.{if◌then◌else◌, map, ◌++◌}
use Rattle.std.specs.List.{AllByRecursion}
use Rattle.std.specs.Option.{IfSome}
use Rattle.stun_base.specs.Credentials.{NameAndPassword}
use Rattle.stun_base.specs.Header.{type_field}
use Rattle.stun_base.specs.MessageType.{class_in, method_of}
use Rattle.stun_base.specs.declared.wire.message_type.MessageClass.TheVariants.{Request}
use Rattle.stun_types.specs.Attribute.{TypedValue}
use Rattle.stun_types.specs.Message.{refusal}
use Rattle.stun_types.specs.Visible.{visible}
use Rattle.stun_types.specs.Walk.{attributes_of}
use Rattle.stun_judging.specs.Reading.{reading_of}
use Rattle.stun_judging.specs.Signed.{Added, IsText, ReadsAs}
use Rattle.stun_extra.specs.Fingerprint.{fingerprint_in}
use Rattle.stun_extra.specs.declared.fingerprint.Fingerprint.{Fingerprint}
use Rattle.stun_extra.specs.declared.fingerprint.Fingerprint.TheVariants.{Right, Absent}
use Rattle.stun_client.specs.Challenge.{added_under}
use Rattle.stun_client.specs.Challenges.{Answered}
use Rattle.stun_client.specs.Downgrade.{IsNowhereBidDown}
use Rattle.stun_client.specs.Judging.{long_term}
use Rattle.stun_client.specs.Rule.{IsChosen}
use Rattle.stun_client.specs.declared.preferences.Preferences.{Preferences}
use Rattle.stun_client_endpoint.specs.Bodies.{Body, Piece, attribute_for, is_reserved, of_peer}
use Rattle.stun_client_endpoint.specs.Bodies.{with_value}
use Rattle.stun_client_endpoint.specs.Written.{Form, request_bytes}

-- an attribute that `Body::add` and `add_xor_peer_address` accept
abbrev pub IsOrdinary : Piece → Type 0
IsOrdinary (with_value a) = (is_reserved a.kind ≡ false) × (a.kind < 2 ^ 16)
IsOrdinary (of_peer address) = ⊤

abbrev pub AreOrdinary : Body → Type 0
AreOrdinary body = AllByRecursion IsOrdinary body

-- what a server reads of what signing adds: for a challenge, and for none
abbrev pub added_to : Option Answered → Added
added_to None = record {
  nonce = None;
  realm = None;
  username = None;
  userhash = None;
  algorithms = None;
  algorithm = None;
  integrity = None;
}
added_to (Some c) = added_under true c.challenge

-- the state of the FINGERPRINT of a request: valid, or none
abbrev pub print_of : Bool → Fingerprint
print_of has = if has then Right else Absent

-- a request is a message of this method whose FINGERPRINT is as its form says, and a reader finds
-- in it what was added to sign it
pub record IsReadAsMade (form : Form) (method : ℕ) (added : Added) (bytes : List ℕ) : Type 0 where
  pub message : refusal bytes ≡ None
  pub class : class_in bytes ≡ Request
  pub method_is : method_of (type_field bytes) ≡ method
  pub print : fingerprint_in bytes ≡ print_of form.has_fingerprint
  pub reads : ReadsAs Request None added (reading_of bytes)

-- each request with long-term credentials that is written, for every body and every form. A method
-- has 12 bits, and the texts of a challenge are UTF-8
abbrev pub RequestsAreReadBack : Type 0
RequestsAreReadBack =
    (form : Form) (who : NameAndPassword) (p : Preferences) (accepts_unsigned : Bool)
    (challenge : Option Answered) (method id : ℕ) (body : Body) (bytes : List ℕ) → method < 4096
    → AreOrdinary body → IsText (added_to challenge)
    → request_bytes form (long_term who p accepts_unsigned) challenge method id body ≡ Ok bytes
    → IsReadAsMade form method (added_to challenge) bytes

-- the visible attributes of a message begin with these
abbrev pub BeginsWith : List TypedValue → List ℕ → Type 0
BeginsWith front bytes =
    (more : List TypedValue) × (attributes_of (visible bytes) ≡ front ++ more)

-- and the attributes of its body come first, unchanged
abbrev pub BodiesAreReadBack : Type 0
BodiesAreReadBack =
    (form : Form) (who : NameAndPassword) (p : Preferences) (accepts_unsigned : Bool)
    (challenge : Option Answered) (method id : ℕ) (body : Body) (bytes : List ℕ) → method < 4096
    → AreOrdinary body
    → request_bytes form (long_term who p accepts_unsigned) challenge method id body ≡ Ok bytes
    → BeginsWith (map (attribute_for id) body) bytes

-- no downgrade, for the bytes that are written: of a request without a signature, and of one for a
-- challenge by the client's own rule, as each is that `judge` returns (`own`)
abbrev pub WrittenIsNotBidDown : Type 0
WrittenIsNotBidDown =
    (form : Form) (who : NameAndPassword) (p : Preferences) (accepts_unsigned : Bool)
    (challenge : Option Answered) (method id : ℕ) (body : Body) (bytes : List ℕ) → method < 4096
    → AreOrdinary body → IsText (added_to challenge)
    → IfSome challenge (λ c. IsChosen p c.challenge)
    → request_bytes form (long_term who p accepts_unsigned) challenge method id body ≡ Ok bytes
    → IsNowhereBidDown p (reading_of bytes)
