-- A client as data, for Models.
use Rattle.std.specs.Prelude.{ℕ, List, refl}
use Rattle.std.specs.Coded.{Coded, code_by, coded×, coded_ℕ, coded_list}
use Rattle.stun_base.specs.declared.keys.algorithm.IntegrityAlgorithm.{IntegrityAlgorithm}
use Rattle.stun_judging.specs.code.Algorithms.{coded_algorithm}
use Rattle.stun_judging.specs.Verdict.{ClientSeen}

abbrev pub coded_client : Coded ClientSeen
coded_client =
    code_by (List ℕ × IntegrityAlgorithm) (coded× (coded_list coded_ℕ) coded_algorithm)
    (λ c. (c.name, c.algorithm)) (λ p. record { name = p.0; algorithm = p.1 }) (λ _. refl)
