-- What a client reads in a challenge: the first visible attribute of each type, if that is well
-- formed (RFC 8489, section 14).
use Rattle.std.specs.Prelude.{ℕ, Bool, ◌||◌, if◌then◌else◌, List, Option, None}
use Rattle.std.specs.Option.{option_and_then, option_map}
use Rattle.stun_base.specs.Attributes.{ERROR_CODE, NONCE, PASSWORD_ALGORITHMS, REALM}
use Rattle.stun_base.specs.MessageType.{class_in, is_error}
use Rattle.stun_types.specs.Attribute.{TypedValue}
use Rattle.stun_types.specs.ErrorCode.{CodeAndReason, error_of}
use Rattle.stun_types.specs.Integrity.{first_of}
use Rattle.stun_types.specs.Limits.{TEXT_LIMIT}
use Rattle.stun_types.specs.Text.{text_of}
use Rattle.stun_types.specs.Visible.{visible}
use Rattle.stun_extra.specs.Values.{bytes_of}
use Rattle.stun_client.specs.Offers.{if_entries}
use Rattle.stun_judging.specs.Reading.{STALE_NONCE, UNAUTHORIZED, is_code}

-- the reading of the first visible attribute of a type
abbrev pub first : {A : Type 0} → (TypedValue → Option A) → ℕ → List ℕ → Option A
first reading kind bytes = option_and_then (λ m. reading m.1) (first_of kind (visible bytes))

-- the code of an error response
abbrev pub code_in : List ℕ → Option ℕ
code_in bytes =
    if is_error (class_in bytes)
    then option_map (λ (e : CodeAndReason). e.code) (first error_of ERROR_CODE bytes) else None

abbrev pub realm_in : List ℕ → Option (List ℕ)
realm_in bytes = first (text_of REALM TEXT_LIMIT) REALM bytes

abbrev pub nonce_in : List ℕ → Option (List ℕ)
nonce_in bytes = first (text_of NONCE TEXT_LIMIT) NONCE bytes

-- the list of password algorithms, as the bytes of its value, if these are entries
abbrev pub list_in : List ℕ → Option (List ℕ)
list_in bytes = option_and_then if_entries (first (bytes_of PASSWORD_ALGORITHMS) PASSWORD_ALGORITHMS bytes)

-- whether an error response asks for credentials, by 401 or by 438
abbrev pub is_challenge : List ℕ → Bool
is_challenge bytes = is_code UNAUTHORIZED (code_in bytes) || is_code STALE_NONCE (code_in bytes)
