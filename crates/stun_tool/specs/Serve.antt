-- What `serve` prints for a script that has a wrong line.
use Rattle.std.specs.Prelude.{ℕ, List, [], ◌∷◌, ◌++◌, codes, decimal, Option}
use Rattle.std.specs.Io.KnownBytes.{Appends}

-- the line that says which line of a script is wrong
abbrev pub wrong_line : ℕ → List ℕ
wrong_line number = codes "wrong line " ++ (decimal number ++ 10 ∷ [])

-- the number of a line is printed as wrong, and nothing before or after it: no call was made
abbrev pub PrintsWrongLineAlone : Option (List ℕ) → Option (List ℕ) → Type 0
PrintsWrongLineAlone before after = (number : ℕ) × Appends before after (wrong_line number)
