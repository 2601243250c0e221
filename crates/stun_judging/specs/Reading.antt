-- What an authenticator reads in a message (RFC 8489, sections 9.2.4 and 9.2.5).
use Rattle.std.specs.Prelude.{ℕ, ◌==◌, List, reverse, map, Bool, false, not, ◌&&◌, ◌||◌}
use Rattle.std.specs.Prelude.{if◌then◌else◌, Option, Some, None}
use Rattle.std.specs.List.{find}
use Rattle.std.specs.Option.{is_some, option_and_then, option_map}
use Rattle.stun_base.specs.declared.keys.algorithm.IntegrityAlgorithm.{IntegrityAlgorithm}
use Rattle.stun_base.specs.declared.wire.message_type.MessageClass.{MessageClass}
use Rattle.stun_base.specs.Attributes.{ERROR_CODE, NONCE, PASSWORD_ALGORITHM}
use Rattle.stun_base.specs.Attributes.{PASSWORD_ALGORITHMS, REALM, USERHASH, USERNAME}
use Rattle.stun_base.specs.MessageType.{class_in, is_error}
use Rattle.stun_types.specs.Attribute.{TypedValue}
use Rattle.stun_types.specs.ErrorCode.{CodeAndReason, error_of}
use Rattle.stun_types.specs.Integrity.{first_of, is_integrity, verified_algorithm}
use Rattle.stun_types.specs.Limits.{TEXT_LIMIT, USERNAME_LIMIT}
use Rattle.stun_types.specs.PasswordAlgorithms.{password_algorithm_in}
use Rattle.stun_types.specs.PasswordAlgorithms.{password_algorithms_in, integrity_of}
use Rattle.stun_types.specs.Text.{text_of}
use Rattle.stun_types.specs.Userhash.{hash_of}
use Rattle.stun_types.specs.Walk.{Member}
use Rattle.stun_types.specs.Visible.{visible}

-- the last member of a type
abbrev pub last_of : ℕ → List Member → Option Member
last_of kind members = first_of kind (reverse members)

-- the reading of the last visible attribute of a type. If that attribute is malformed, there is no
-- reading, even if an earlier one is well formed
abbrev pub last : {A : Type 0} → (TypedValue → Option A) → ℕ → List ℕ → Option A
last reading kind bytes = option_and_then (λ m. reading m.1) (last_of kind (visible bytes))

-- whether a well-formed integrity attribute is visible
abbrev pub has_visible_integrity : List ℕ → Bool
has_visible_integrity bytes = is_some (find (λ m. is_integrity m.1) (visible bytes))

-- the reading of a message: for each type, the last visible attribute, if that one is well formed
pub record Reading : Type 0 where
  pub class : MessageClass
  -- the code of an error response
  pub error : Option ℕ
  pub realm : Option (List ℕ)
  pub nonce : Option (List ℕ)
  pub username : Option (List ℕ)
  pub userhash : Option (List ℕ)
  -- the algorithms whose keys are made by the listed password algorithms, and by the chosen one
  pub algorithms : Option (List IntegrityAlgorithm)
  pub algorithm : Option IntegrityAlgorithm
  -- if an integrity attribute is visible and well formed, the algorithm whose digest verifies under
  -- a key
  pub integrity : Option (List ℕ → Option IntegrityAlgorithm)

-- the algorithm whose digest verifies under a key
abbrev pub verified_under : Reading → List ℕ → Option IntegrityAlgorithm
verified_under r key =
    option_and_then (λ (verify : List ℕ → Option IntegrityAlgorithm). verify key) r.integrity

-- the code of an error response
abbrev pub error_code : List ℕ → Option ℕ
error_code bytes =
    if is_error (class_in bytes)
    then option_map (λ (e : CodeAndReason). e.code) (last error_of ERROR_CODE bytes) else None

-- the reading of the bytes of a message
unfoldable pub reading_of : List ℕ → Reading
reading_of bytes = record {
  class = class_in bytes;
  error = error_code bytes;
  realm = last (text_of REALM TEXT_LIMIT) REALM bytes;
  nonce = last (text_of NONCE TEXT_LIMIT) NONCE bytes;
  username = last (text_of USERNAME USERNAME_LIMIT) USERNAME bytes;
  userhash = last hash_of USERHASH bytes;
  algorithms =
      option_map (map integrity_of) (last password_algorithms_in PASSWORD_ALGORITHMS bytes);
  algorithm = option_map integrity_of (last password_algorithm_in PASSWORD_ALGORITHM bytes);
  integrity = if has_visible_integrity bytes then Some (verified_algorithm bytes) else None;
}

-- whether a message has REALM, NONCE and a name
abbrev pub is_complete : Reading → Bool
is_complete r = is_some r.realm && is_some r.nonce && (is_some r.userhash || is_some r.username)

-- whether a message has integrity but lacks one of these. It is refused whichever nonce is current,
-- and no nonce is made for it
abbrev pub is_malformed : Reading → Bool
is_malformed r = is_some r.integrity && not (is_complete r)

-- ---- codes of errors that a client answers

-- the code of a challenge (section 14.8)
abbrev pub UNAUTHORIZED : ℕ
UNAUTHORIZED = 401

-- the code of a stale nonce (section 14.8)
abbrev pub STALE_NONCE : ℕ
STALE_NONCE = 438

-- whether an error has a code
abbrev pub is_code : ℕ → Option ℕ → Bool
is_code code None = false
is_code code (Some other) = other == code
