-- The source of the algorithms of a PASSWORD-ALGORITHMS: a program's own list, or entries in a
-- message.
use Rattle.std.specs.Prelude.{List, IsTrue}
use Rattle.stun_types.specs.code.PasswordAlgorithms.{are_entries, entry_list}
use Rattle.stun_types.specs.declared.attribute.password_algorithm.PasswordAlgorithmValue.{
  PasswordAlgorithmValue,
}
use Rattle.stun_types.specs.declared.attribute.password_algorithms.Source.{Source}
use Rattle.stun_types.specs.declared.attribute.password_algorithms.Source.TheVariants.{Listed}
use Rattle.stun_types.specs.declared.attribute.password_algorithms.Source.TheVariants.{Received}

-- the list
abbrev pub list_of : Source → List PasswordAlgorithmValue
list_of (Listed list) = list.now
list_of (Received bytes) = entry_list bytes.now

-- the received bytes are entries of known algorithms
abbrev pub IsKnown : Source → Type 0
IsKnown (Listed list) = Unit {0}
IsKnown (Received bytes) = IsTrue (are_entries bytes.now)
