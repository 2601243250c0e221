-- What a line of output is.
use Rattle.std.specs.Prelude.{◌≡◌, ℕ, List, [], ◌∷◌, ◌++◌, Bool, false, ◌==◌}
use Rattle.std.specs.List.{list_any}

-- whether a text has a line feed
abbrev pub has_line_feed : List ℕ → Bool
has_line_feed text = list_any (λ byte. byte == 10) text

-- one line: a text without a line feed, and then a line feed
abbrev pub IsLine : List ℕ → Type 0
IsLine line = (text : List ℕ) × (has_line_feed text ≡ false) × (line ≡ text ++ 10 ∷ [])
