-- The list of password algorithms in a challenge (RFC 8489, section 14.11), as it arrived: the
-- bytes of its value. An entry is the number of an algorithm and the length of its parameters, of 2
-- bytes each, and the parameters with their padding.
use Rattle.std.specs.Prelude.{ℕ, Bool, ◌==◌, List, [], ◌∷◌, length, if◌then◌else◌, Option, Some, None}
use Rattle.std.specs.Option.{option_map}
use Rattle.stun_base.specs.declared.keys.algorithm.IntegrityAlgorithm.{IntegrityAlgorithm}
use Rattle.stun_types.specs.Attribute.{TypedValue}
use Rattle.stun_types.specs.PasswordAlgorithms.{algorithm_of_number, integrity_of}
use Rattle.stun_extra.specs.AlgorithmList.{are_filled, entries_in}

-- whether bytes are entries, one after the other
abbrev pub are_entries : List ℕ → Bool
are_entries bytes = are_filled bytes

-- the list, if the bytes are entries
abbrev pub if_entries : List ℕ → Option (List ℕ)
if_entries bytes = if are_entries bytes then Some bytes else None

-- the algorithm whose key an entry makes, if it is known: MD5 and SHA-256, without parameters
abbrev pub known : TypedValue → Option IntegrityAlgorithm
known entry =
    if length entry.value == 0 then option_map integrity_of (algorithm_of_number entry.kind) else None

abbrev pub in_front : Option IntegrityAlgorithm → List IntegrityAlgorithm → List IntegrityAlgorithm
in_front None others = others
in_front (Some algorithm) others = algorithm ∷ others

-- the known algorithms of entries, in their order. The others are skipped
abbrev pub known_of : List TypedValue → List IntegrityAlgorithm
known_of [] = []
known_of (entry ∷ others) = in_front (known entry) (known_of others)

-- the known algorithms of a list
abbrev pub algorithms_in : List ℕ → List IntegrityAlgorithm
algorithms_in list = known_of (entries_in list)
