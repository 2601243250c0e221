-- The entries of a list as its struct stores them.
use Rattle.std.specs.Prelude.{ℕ, Bool, List, []}
use Rattle.std.specs.Option.{is_some, unwrap_or}
use Rattle.stun_types.specs.declared.attribute.password_algorithm.PasswordAlgorithmValue.{
  PasswordAlgorithmValue,
}
use Rattle.stun_types.specs.PasswordAlgorithms.{entries}

-- whether bytes are entries of known algorithms
abbrev pub are_entries : List ℕ → Bool
are_entries bytes = is_some (entries bytes)

-- the algorithms of such bytes
abbrev pub entry_list : List ℕ → List PasswordAlgorithmValue
entry_list bytes = unwrap_or (entries bytes) []
