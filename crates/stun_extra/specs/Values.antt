-- How values that consist only of a number or of bytes, and empty values, are read. A value whose
-- length differs from that of its type is malformed.
use Rattle.std.specs.Prelude.{◌≡◌, ◌<◌, ◌^◌, ℕ, List, [], length, Option}
use Rattle.std.specs.Prelude.{Some, None, ◌==◌, ◌&&◌, if◌then◌else◌}
use Rattle.std.proofs.Common.{rules, sym, ap, ◌∙◌}
use Rattle.std.proofs.lemmas.List.{append-nil}
use Rattle.byteorder.specs.Endian.{big_bytes, big_number}
use Rattle.byteorder.specs.Numbers.{big_number-reads_back}
use Rattle.stun_types.specs.Attribute.{TypedValue}

-- the number that is the value of an attribute of this type, if it has exactly this number of
-- bytes, the highest first
abbrev pub number_of : ℕ → ℕ → TypedValue → Option ℕ
number_of kind count attribute =
    if attribute.kind == kind && (length attribute.value == count)
    then Some (big_number count attribute.value) else None

-- an attribute of this type whose value is empty
abbrev pub flag_of : ℕ → TypedValue → Option (Unit {0})
flag_of kind attribute =
    if attribute.kind == kind && (length attribute.value == 0) then Some tt else None

-- the value of an attribute of this type, of any length
abbrev pub bytes_of : ℕ → TypedValue → Option (List ℕ)
bytes_of kind attribute = if attribute.kind == kind then Some attribute.value else None

-- ---- what is written is read again

-- a number is read from its bytes
number-written : (count number : ℕ) → number < 256 ^ count
    → big_number count (big_bytes count number) ≡ number
number-written count number fits =
    ap (big_number count) (sym (append-nil (big_bytes count number)))
    ∙ big_number-reads_back count number [] fits

pub number_of_4-written : (kind number : ℕ) → number < 2 ^ 32
    → number_of kind 4 (record { kind = kind; value = big_bytes 4 number }) ≡ Some number
number_of_4-written kind number fits = let read = number-written 4 number fits in search rules

pub number_of_8-written : (kind number : ℕ) → number < 2 ^ 64
    → number_of kind 8 (record { kind = kind; value = big_bytes 8 number }) ≡ Some number
number_of_8-written kind number fits = let read = number-written 8 number fits in search rules

pub flag_of-written : (kind : ℕ) (flag : Unit {0}) → Unit {0}
    → flag_of kind (record { kind = kind; value = [] }) ≡ Some flag
flag_of-written kind flag holds = search rules

pub bytes_of-written : (kind : ℕ) (value : List ℕ) → Unit {0}
    → bytes_of kind (record { kind = kind; value = value }) ≡ Some value
bytes_of-written kind value holds = search rules
