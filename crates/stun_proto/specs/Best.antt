-- What a client and a server can agree on (RFC 8489, section 9.2).
use Rattle.std.specs.Prelude.{◌≡◌, ◌≤◌, ◌↔◌, ◌⊎◌, not, ◌&&◌, if◌then◌else◌}
use Rattle.std.specs.Prelude.{nat_lt, List, Contains, filter, Option, Some, None}
use Rattle.std.specs.List.{reduce}
use Rattle.stun_base.specs.Algorithm.{strength}
use Rattle.stun_base.specs.declared.keys.algorithm.IntegrityAlgorithm.{IntegrityAlgorithm}
use Rattle.stun_judging.specs.declared.feature.Feature.{Feature}
use Rattle.stun_judging.specs.declared.feature.Feature.TheVariants.{Required, Disabled}
use Rattle.stun_judging.specs.Algorithms.{has}
use Rattle.stun_judging.specs.Feature.{is_required, is_possible}

-- the stronger of two algorithms
abbrev pub stronger : IntegrityAlgorithm → IntegrityAlgorithm → IntegrityAlgorithm
stronger a b = if nat_lt (strength a) (strength b) then b else a

-- the strongest of the client's algorithms that the server has too. There is none if they have no
-- algorithm in common, or if the client must send a hash of its name and the server accepts no
-- hashes
abbrev pub best : List IntegrityAlgorithm → List IntegrityAlgorithm → Feature → Feature
    → Option IntegrityAlgorithm
best client server wanted given =
    if is_required wanted && not (is_possible given) then None
    else reduce stronger (filter (λ a. has a server) client)

-- ---- the law

-- the client must send a hash of its name, and the server accepts no hashes
abbrev pub HashIsRefused : Feature → Feature → Type 0
HashIsRefused wanted given = (wanted ≡ Required) × (given ≡ Disabled)

-- both lists have the algorithm
abbrev pub IsShared : List IntegrityAlgorithm → List IntegrityAlgorithm → IntegrityAlgorithm
    → Type 0
IsShared client server a = Contains client a × Contains server a

-- both lists have the algorithm, and no algorithm that both lists have is stronger
pub record IsStrongestShared (client server : List IntegrityAlgorithm)
    (a : IntegrityAlgorithm) : Type 0 where
  pub shared : IsShared client server a
  pub strongest : (b : IntegrityAlgorithm) → IsShared client server b → strength b ≤ strength a

-- the answer is an algorithm if and only if the sides may agree on one, and this is the strongest
-- that both have. There is no answer if and only if the sides may not agree, or have no algorithm
-- in common
pub record IsBest (client server : List IntegrityAlgorithm) (wanted given : Feature)
    (answer : Option IntegrityAlgorithm) : Type 0 where
  pub some : (a : IntegrityAlgorithm)
      → (answer ≡ Some a) ↔ ((HashIsRefused wanted given → ⊥) × IsStrongestShared client server a)
  pub none : (answer ≡ None)
      ↔ (HashIsRefused wanted given ⊎ ((a : IntegrityAlgorithm) → IsShared client server a → ⊥))

-- `best` returns the strongest algorithm that both support
abbrev pub BestIsStrongest : Type 0
BestIsStrongest = (client server : List IntegrityAlgorithm) (wanted given : Feature)
    → IsBest client server wanted given (best client server wanted given)
