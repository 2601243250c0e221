-- The IDs of transactions (RFC 8489, section 5): numbers of 96 bits.
use Rattle.std.specs.Prelude.{ℕ, ◌+◌, ◌*◌, ◌^◌, List, [], ◌∷◌, length}

-- the number that consists of these 32-bit parts, the highest part first
abbrev pub value_of_words : List ℕ → ℕ
value_of_words [] = 0
value_of_words (word ∷ words) = word * 2 ^ (32 * length words) + value_of_words words
