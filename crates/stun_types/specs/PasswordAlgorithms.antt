-- PASSWORD-ALGORITHM and PASSWORD-ALGORITHMS (RFC 8489, sections 14.11, 14.12 and 18.5). An entry
-- is the number of an algorithm and the length of its parameters, of 2 bytes each, and the
-- parameters. MD5 and SHA-256 have no parameters.
use Rattle.std.specs.Prelude.{◌≡◌, refl, ℕ, List, [], ◌∷◌, ◌++◌, length, drop}
use Rattle.std.specs.Prelude.{Option, Some, None, ◌==◌, ◌&&◌, if◌then◌else◌}
use Rattle.std.proofs.Common.{ap}
use Rattle.std.specs.List.{flat_map}
use Rattle.byteorder.specs.Endian.{big_bytes, big_number}
use Rattle.stun_base.specs.declared.keys.algorithm.IntegrityAlgorithm.{IntegrityAlgorithm}
use Rattle.stun_base.specs.declared.keys.algorithm.IntegrityAlgorithm.TheVariants.{Sha1, Sha256}
use Rattle.stun_base.specs.Attributes.{PASSWORD_ALGORITHM, PASSWORD_ALGORITHMS}
use Rattle.stun_types.specs.Attribute.{TypedValue}
use Rattle.stun_types.specs.declared.attribute.password_algorithm.PasswordAlgorithmValue.{
  PasswordAlgorithmValue,
}
use Rattle.stun_types.specs.declared.attribute.password_algorithm.PasswordAlgorithmValue.TheVariants.{
  MD5,
  SHA256,
}

-- the number of an algorithm (section 18.5.1)
abbrev pub number_of_algorithm : PasswordAlgorithmValue → ℕ
number_of_algorithm MD5 = 0x0001
number_of_algorithm SHA256 = 0x0002

-- the algorithm of a number, if it is known
abbrev pub algorithm_of_number : ℕ → Option PasswordAlgorithmValue
algorithm_of_number number =
    if number == 0x0001 then Some MD5 else (if number == 0x0002 then Some SHA256 else None)

-- the algorithm of the signatures that are made with keys that this algorithm derives (section
-- 18.5.1)
abbrev pub integrity_of : PasswordAlgorithmValue → IntegrityAlgorithm
integrity_of MD5 = Sha1
integrity_of SHA256 = Sha256

-- the algorithm that derives the key for signatures with this algorithm
abbrev pub password_algorithm_of : IntegrityAlgorithm → PasswordAlgorithmValue
password_algorithm_of Sha1 = MD5
password_algorithm_of Sha256 = SHA256

-- the number of bytes of an entry without parameters
abbrev pub ENTRY_LENGTH : ℕ
ENTRY_LENGTH = 4

-- an entry as it is written: a number, and no parameters
abbrev pub spelled_entry : PasswordAlgorithmValue → List ℕ
spelled_entry algorithm = big_bytes 2 (number_of_algorithm algorithm) ++ big_bytes 2 0

-- the entries of a list, one after the other
abbrev pub spelled_entries : List PasswordAlgorithmValue → List ℕ
spelled_entries list = flat_map spelled_entry list

-- the algorithm of the entry that bytes begin with: a known number without parameters
abbrev pub entry_at_front : List ℕ → Option PasswordAlgorithmValue
entry_at_front bytes =
    if big_number 2 (drop 2 bytes) == 0 then algorithm_of_number (big_number 2 bytes) else None

-- a list of algorithms with one more at its beginning, if all are known
abbrev pub in_front_of : Option (List PasswordAlgorithmValue) → Option PasswordAlgorithmValue
    → Option (List PasswordAlgorithmValue)
in_front_of (Some others) (Some algorithm) = Some (algorithm ∷ others)
in_front_of (Some others) None = None
in_front_of None first = None

-- the algorithms in bytes that consist of entries of four bytes each, if all algorithms are known
-- and have no parameters
abbrev pub entries : List ℕ → Option (List PasswordAlgorithmValue)
entries [] = Some []
entries (a ∷ []) = None
entries (a ∷ b ∷ []) = None
entries (a ∷ b ∷ c ∷ []) = None
entries (a ∷ b ∷ c ∷ d ∷ rest) = in_front_of (entries rest) (entry_at_front (a ∷ b ∷ c ∷ d ∷ []))

-- the list in a PASSWORD-ALGORITHMS; it may be empty
abbrev pub password_algorithms_in : TypedValue → Option (List PasswordAlgorithmValue)
password_algorithms_in attribute =
    if attribute.kind == PASSWORD_ALGORITHMS then entries attribute.value else None

-- the algorithm in a PASSWORD-ALGORITHM: exactly one entry
abbrev pub password_algorithm_in : TypedValue → Option PasswordAlgorithmValue
password_algorithm_in attribute =
    if attribute.kind == PASSWORD_ALGORITHM && (length attribute.value == ENTRY_LENGTH)
    then entry_at_front attribute.value else None

-- an algorithm that is written is read again
pub password_algorithm_in-written : (algorithm : PasswordAlgorithmValue) → Unit {0}
    → password_algorithm_in (record { kind = PASSWORD_ALGORITHM; value = spelled_entry algorithm })
    ≡ Some algorithm
password_algorithm_in-written MD5 holds = refl
password_algorithm_in-written SHA256 holds = refl

-- an algorithm before a list whose entries are read again
in_front : (list : List PasswordAlgorithmValue) (bytes : List ℕ)
    (algorithm : PasswordAlgorithmValue)
    → entries bytes ≡ Some list
    → entries (spelled_entry algorithm ++ bytes) ≡ Some (algorithm ∷ list)
in_front list bytes MD5 read = ap (λ others. in_front_of others (Some MD5)) read
in_front list bytes SHA256 read = ap (λ others. in_front_of others (Some SHA256)) read

-- entries that are written are read again
entries-written : (list : List PasswordAlgorithmValue) → entries (spelled_entries list) ≡ Some list
entries-written [] = refl
entries-written (algorithm ∷ list) =
    in_front list (spelled_entries list) algorithm (entries-written list)

-- a list that is written is read again
pub password_algorithms_in-written : (list : List PasswordAlgorithmValue) → Unit {0}
    → password_algorithms_in (record { kind = PASSWORD_ALGORITHMS; value = spelled_entries list })
    ≡ Some list
password_algorithms_in-written list holds = entries-written list
