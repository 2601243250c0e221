-- What writing a text leaves.
use Rattle.std.specs.Prelude.{◌<◌, ℕ, List, Option, length, take}
use Rattle.std.specs.Io.KnownBytes.{Appends}

-- the writer has a part of the beginning of the text, but not all of it, after what it had
abbrev pub AppendsBeginning : Option (List ℕ) → Option (List ℕ) → List ℕ → Type 0
AppendsBeginning before after text =
    (written : ℕ) × (written < length text) × Appends before after (take written text)
