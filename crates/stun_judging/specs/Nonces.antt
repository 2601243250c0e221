-- Nonces of a server, and the security bits that they carry (RFC 8489, section 9.2).
use Rattle.std.specs.Prelude.{[]}
use Rattle.std.specs.Prelude.{ℕ, nat_eq, ◌+◌, ◌%◌, ◌-◌, ◌==◌, nat_lt, nat_le, Bool, false}
use Rattle.std.specs.Prelude.{not, ◌&&◌, if◌then◌else◌, List, ◌∷◌, ◌++◌, length, take}
use Rattle.std.specs.Prelude.{drop, map, codes, Option, Some, None, bit_and, bit_or}
use Rattle.std.specs.List.{starts_with}
use Rattle.std.specs.declared.result.Result.{Result}
use Rattle.std.specs.declared.result.Result.TheVariants.{Ok, Err}
use Rattle.base64.specs.declared.decode.DecodeError.{DecodeError}
use Rattle.base64.specs.Engines.{standard}
use Rattle.base64.specs.GeneralPurpose.{encode_of, decode_of}
use Rattle.stun_base.specs.declared.keys.algorithm.IntegrityAlgorithm.TheVariants.{Sha256}
use Rattle.stun_judging.specs.declared.feature.Feature.{Feature}
use Rattle.stun_judging.specs.Algorithms.{contains}
use Rattle.stun_judging.specs.Feature.{is_possible}
use Rattle.stun_judging.specs.declared.algorithm_set.AlgorithmSet.{AlgorithmSet}

-- the beginning of a nonce that has security bits
abbrev pub cookie : List ℕ
cookie = codes "obMatJos2"

abbrev pub begins_with_cookie : List ℕ → Bool
begins_with_cookie text = starts_with nat_eq text cookie

-- the bytes, if there are three
abbrev pub three_bytes : Result (List ℕ) DecodeError → Option (List ℕ)
three_bytes (Ok bytes) = if length bytes == 3 then Some bytes else None
three_bytes (Err e) = None

-- the 24 security bits of a nonce: its four letters after the cookie, if they are base64 of three
-- bytes
unfoldable pub security_bits : List ℕ → Option (List ℕ)
security_bits text =
    if begins_with_cookie text && nat_le 13 (length text)
    then three_bytes (decode_of standard (take 4 (drop 9 text))) else None

-- whether the first of the bytes has a bit
abbrev pub first_has : ℕ → Option (List ℕ) → Bool
first_has bit None = false
first_has bit (Some []) = false
first_has bit (Some (byte ∷ bytes)) = not (bit_and byte bit == 0)

-- the bytes with a bit of the first one set or cleared
abbrev pub with_first_bit : ℕ → Bool → List ℕ → List ℕ
with_first_bit bit is_set [] = []
with_first_bit bit is_set (byte ∷ bytes) =
    (if is_set then bit_or byte bit else bit_and byte (255 - bit)) ∷ bytes

-- the cookie and the security bits as four letters
unfoldable pub spelled_bits : List ℕ → List ℕ
spelled_bits bytes = cookie ++ encode_of standard bytes

-- whether a nonce asks for password algorithms, and for an anonymous user name
abbrev pub asks_for_algorithms : List ℕ → Bool
asks_for_algorithms nonce = first_has 0x80 (security_bits nonce)

abbrev pub asks_for_userhash : List ℕ → Bool
asks_for_userhash nonce = first_has 0x40 (security_bits nonce)

-- the letter of a random word: A to Z, a to z, 0 to 9
abbrev pub letter_at : ℕ → ℕ
letter_at n = if nat_lt n 26 then 65 + n else if nat_lt n 52 then 71 + n else n - 4

abbrev pub letter : ℕ → ℕ
letter word = letter_at (word % 62)

-- the first security byte of a server's nonces
abbrev pub security_byte : AlgorithmSet → Feature → ℕ
security_byte algorithms feature =
    (if contains Sha256 algorithms then 0x80 else 0) + (if is_possible feature then 0x40 else 0)

-- the front of a nonce with this security byte
abbrev pub front : ℕ → List ℕ
front byte = spelled_bits (byte ∷ 0 ∷ 0 ∷ [])

-- letters that do not begin like the cookie
abbrev pub without_cookie : List ℕ → List ℕ
without_cookie letters = if begins_with_cookie letters then 112 ∷ drop 1 letters else letters

-- the nonce that a server makes from random words
abbrev pub nonce_of : AlgorithmSet → Feature → List ℕ → List ℕ
nonce_of algorithms feature words =
    if security_byte algorithms feature == 0 then without_cookie (map letter words)
    else front (security_byte algorithms feature) ++ map letter words
