-- The responses of a server, byte by byte (RFC 8489, sections 6.3.1, 9.2.4 and 14.8).
use Rattle.std.specs.Prelude.{◌≡◌, ℕ, List, [], ◌∷◌, Bool, true, false}
use Rattle.std.specs.Prelude.{if◌then◌else◌, Option, Some, None}
use Rattle.std.specs.declared.net.socket_addr.SocketAddr.{SocketAddr}
use Rattle.stun_base.specs.declared.keys.algorithm.IntegrityAlgorithm.{IntegrityAlgorithm}
use Rattle.stun_base.specs.declared.keys.algorithm.IntegrityAlgorithm.TheVariants.{Sha256}
use Rattle.stun_base.specs.declared.wire.message_type.MessageClass.TheVariants.{Error, Success}
use Rattle.stun_types.specs.Attribute.{TypedValue}
use Rattle.stun_types.specs.Integrity.{verified_by}
use Rattle.stun_types.specs.Writing.{empty_answer, with_attribute, with_integrity}
use Rattle.stun_judging.specs.AddedAttribute as added
use Rattle.stun_judging.specs.Algorithms.{algorithms_of, contains}
use Rattle.stun_judging.specs.declared.algorithm_set.AlgorithmSet.{AlgorithmSet}
use Rattle.stun_extra.specs.AttributeTypes.{SOFTWARE}
use Rattle.stun_extra.specs.CanonicalAddress.{mapped_address}
use Rattle.stun_extra.specs.Errors.{error_code_attribute}
use Rattle.stun_extra.specs.Fingerprint.{fingerprint_in, with_fingerprint}
use Rattle.stun_extra.specs.declared.fingerprint.Fingerprint.{Fingerprint}
use Rattle.stun_extra.specs.declared.fingerprint.Fingerprint.TheVariants.{Right, Wrong}
use Rattle.stun_extra.specs.declared.fingerprint.Fingerprint.TheVariants.{Misplaced, Absent}
use Rattle.stun_endpoint.specs.Settings.{Settings}

-- ---- how each response ends

-- the signature of a response: the algorithm of its integrity attribute, and the key
pub record Signature : Type 0 where
  pub algorithm : IntegrityAlgorithm
  pub key : List ℕ

-- the end of a response: SOFTWARE, the integrity attribute and FINGERPRINT, each if the response
-- has it
pub record Ending : Type 0 where
  pub software : Option (List ℕ)
  pub signature : Option Signature
  pub has_fingerprint : Bool

abbrev pub with_software : Option (List ℕ) → List ℕ → List ℕ
with_software None page = page
with_software (Some text) page = with_attribute page (record { kind = SOFTWARE; value = text })

abbrev pub with_signature : Option Signature → List ℕ → List ℕ
with_signature None page = page
with_signature (Some by) page = with_integrity page by.algorithm by.key

abbrev pub with_last : Bool → List ℕ → List ℕ
with_last true page = with_fingerprint page
with_last false page = page

-- a response with its end
abbrev pub with_end : Ending → List ℕ → List ℕ
with_end ending page =
    with_last ending.has_fingerprint
    (with_signature ending.signature (with_software ending.software page))

-- whether there is a FINGERPRINT and it is valid
abbrev pub is_right : Fingerprint → Bool
is_right Right = true
is_right Wrong = false
is_right Misplaced = false
is_right Absent = false

-- a response has FINGERPRINT if and only if its request has a valid one
abbrev pub is_fingerprinted : List ℕ → Bool
is_fingerprinted request = is_right (fingerprint_in request)

-- the digest of a response verifies under the key that signs it. Nothing is required of a response
-- that is not signed
abbrev pub VerifiesBy : Option Signature → List ℕ → Type 0
VerifiesBy None response = Unit {0}
VerifiesBy (Some by) response =
    (keys : IntegrityAlgorithm → List ℕ) → keys by.algorithm ≡ by.key
    → verified_by keys response ≡ Some by.algorithm

-- ---- responses

-- an error response to a request, with ERROR-CODE alone
unfoldable pub error_page : List ℕ → ℕ → List ℕ → List ℕ
error_page request code reason =
    with_attribute (empty_answer Error request) (error_code_attribute code reason)

-- a message to which these attributes are added, one after another
abbrev pub with_attributes : List ℕ → List TypedValue → List ℕ
with_attributes page [] = page
with_attributes page (attribute ∷ others) = with_attributes (with_attribute page attribute) others

-- the algorithms that a server offers, the strongest first. A server that supports HMAC-SHA1 alone
-- offers none, and its nonces do not ask for a choice
abbrev pub offered : AlgorithmSet → List TypedValue
offered algorithms =
    if contains Sha256 algorithms
    then added.password_algorithms (algorithms_of algorithms) ∷ [] else []

-- an error response that asks for credentials: NONCE, REALM and PASSWORD-ALGORITHMS
abbrev pub challenge_page : Settings → List ℕ → List ℕ → ℕ → List ℕ → List ℕ
challenge_page s nonce request code reason =
    with_attributes (error_page request code reason)
    (added.nonce nonce ∷ added.realm s.realm ∷ offered s.algorithms)

-- a success response to a Binding request, with XOR-MAPPED-ADDRESS alone
unfoldable pub binding_page : SocketAddr → List ℕ → List ℕ
binding_page from request =
    with_attribute (empty_answer Success request) (mapped_address from request)
