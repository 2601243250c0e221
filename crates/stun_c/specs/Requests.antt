-- What the building calls make of their arguments: bytes, or the first error.
use Rattle.std.specs.Prelude.{ℕ, List, [], ◌∷◌, length, nat_lt, not, ◌==◌, ◌&&◌}
use Rattle.std.specs.Prelude.{if◌then◌else◌, Option, Some, None, Result, Ok, Err}
use Rattle.std.specs.Str.{is_utf8}
use Rattle.byteorder.specs.Endian.{big_number}
use Rattle.stun_base.specs.declared.keys.algorithm.IntegrityAlgorithm.{IntegrityAlgorithm}
use Rattle.stun_base.specs.declared.keys.algorithm.IntegrityAlgorithm.TheVariants.{Sha1, Sha256}
use Rattle.stun_base.specs.declared.wire.message_type.MessageClass.TheVariants.{Request}
use Rattle.stun_base.specs.Attributes.{USERNAME}
use Rattle.stun_base.specs.Keys.{long_term_key, userhash_of}
use Rattle.stun_base.specs.MessageType.{type_number}
use Rattle.stun_types.specs.Grammar.{spelled_message}
use Rattle.stun_types.specs.Limits.{USERNAME_LIMIT}
use Rattle.stun_types.specs.Writing.{with_integrity}
use Rattle.stun_numbers.specs.declared.refusal.Refusal.{Refusal}
use Rattle.stun_numbers.specs.declared.refusal.Refusal.TheVariants.{BadArgument, NotText}
use Rattle.stun_numbers.specs.declared.refusal.Refusal.TheVariants.{TextTooLong}
use Rattle.stun_numbers.specs.Refusals.{refusal_or}

-- a Binding request with a USERNAME (RFC 8489, sections 5, 14.3 and 18.2)
abbrev pub binding_request : List ℕ → List ℕ → List ℕ
binding_request id username =
    spelled_message (type_number Request 0x001) (big_number 12 id)
    (record { kind = USERNAME; value = username } ∷ [])

-- why bytes are not a user name, if they are not
abbrev pub username_refusal : List ℕ → Option Refusal
username_refusal username =
    if not (is_utf8 username) then Some NotText
    else (if nat_lt USERNAME_LIMIT (length username) then Some TextTooLong else None)

-- the request that `stunp_build_signed` makes, with its integrity attribute
abbrev pub signed_request : Option IntegrityAlgorithm → List ℕ → List ℕ → List ℕ
    → Result (List ℕ) Refusal
signed_request None id username key = Err BadArgument
signed_request (Some algorithm) id username key =
    if not (length id == 12) then Err BadArgument
    else refusal_or (username_refusal username)
    (Ok (with_integrity (binding_request id username) algorithm key))

-- the number of bytes of a long-term key (sections 9.2.2 and 18.5.1)
abbrev pub key_length : IntegrityAlgorithm → ℕ
key_length Sha1 = 16
key_length Sha256 = 32

-- the key that `stunp_long_term_key` makes (section 9.2.2)
abbrev pub key_of_texts : Option IntegrityAlgorithm → List ℕ → List ℕ → List ℕ
    → Result (List ℕ) Refusal
key_of_texts None username realm password = Err BadArgument
key_of_texts (Some algorithm) username realm password =
    if is_utf8 username && is_utf8 realm && is_utf8 password
    then Ok (long_term_key algorithm username realm password) else Err NotText

-- the hash that `stunp_userhash` makes (section 14.4)
abbrev pub userhash_of_texts : List ℕ → List ℕ → Result (List ℕ) Refusal
userhash_of_texts username realm =
    if is_utf8 username && is_utf8 realm then Ok (userhash_of username realm) else Err NotText
