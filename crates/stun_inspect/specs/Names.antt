-- The names of attributes.
use Rattle.std.specs.Prelude.{◌≡◌, ◌≤◌, ℕ, List, false, length}
use Rattle.stun_cli.specs.Line.{has_line_feed}
use Rattle.stun_inspect.specs.Decode.{NAME_LENGTH}

-- a name that fits in its column, on one line
abbrev pub IsName : List ℕ → Type 0
IsName name = (length name ≤ NAME_LENGTH) × (has_line_feed name ≡ false)
