-- The offset at the front of a row of a dump.
use Rattle.std.specs.Prelude.{◌≡◌, ◌≢◌, ◌<◌, ◌-◌, ℕ, List, Bool, length, take, drop, get_or}
use Rattle.std.specs.Prelude.{Option, Some, None, ◌==◌, ◌&&◌, ◌||◌, nat_lt, nat_le, if◌then◌else◌}

-- the index of the first blank of a row: the bytes before it are the first word of the row
abbrev pub IsFirstBlank : List ℕ → ℕ → Type 0
IsFirstBlank row place =
    (place < length row) × (get_or row place 0 ≡ 32) × ((i : ℕ) → i < place → get_or row i 0 ≢ 32)

-- the digits without a leading `0x`
abbrev pub without_prefix : List ℕ → List ℕ
without_prefix digits =
    if nat_le 2 (length digits) && (get_or digits 0 0 == 48) && (get_or digits 1 0 == 120)
    then drop 2 digits else digits

-- a word has six letters, and the word after it has two
abbrev pub is_before_byte : List ℕ → List ℕ → Bool
is_before_byte word rest =
    (length word == 6)
    && ((length rest == 2) || (nat_lt 2 (length rest) && (get_or rest 2 0 == 32)))

-- the digits of an offset, if the first word of a row is one. A blank and `rest` follow that word.
-- A word that ends in a colon is an offset, without the colon. Any other word is an offset if a
-- second blank follows the first, or if the word has six letters and the next word two
abbrev pub offset_digits : List ℕ → List ℕ → Option (List ℕ)
offset_digits word rest =
    if nat_lt 0 (length word) && (get_or word (length word - 1) 0 == 58)
    then Some (without_prefix (take (length word - 1) word))
    else if nat_lt 0 (length rest) && (get_or rest 0 0 == 32) then Some word
    else if is_before_byte word rest then Some word
    else None
