-- What a writer that may fail has received.
use Rattle.std.specs.Prelude.{◌≤◌, ℕ, List, Option, length, take}
use Rattle.std.specs.Io.KnownBytes.{Appends}

-- the writer has the text, or a part of its beginning if a write failed, after what it had
abbrev pub AppendsUnlessFailed : Option (List ℕ) → Option (List ℕ) → List ℕ → Type 0
AppendsUnlessFailed before after text =
    (written : ℕ) × (written ≤ length text) × Appends before after (take written text)
