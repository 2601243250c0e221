-- Clients and records as data, for Models.
use Rattle.std.specs.Prelude.{ℕ, List, Option, refl}
use Rattle.std.specs.Coded.{Coded, code_by, coded×, coded_ℕ, coded_list, coded_option}
use Rattle.stun_judging.specs.declared.algorithm_set.AlgorithmSet.{AlgorithmSet}
use Rattle.stun_judging.specs.code.Algorithms.{coded_set}
use Rattle.stun_judging.specs.Verdict.{ClientSeen}
use Rattle.stun_auth.specs.Seen.{PlaceSeen}
use Rattle.stun_judging.specs.code.Judged.{coded_client}

abbrev pub coded_place : Coded PlaceSeen
coded_place = code_by (List ℕ × (ℕ × (Option AlgorithmSet × Option ClientSeen)))
    (coded× (coded_list coded_ℕ)
    (coded× coded_ℕ (coded× (coded_option coded_set) (coded_option coded_client))))
    (λ p. (p.nonce, (p.expires, (p.offered, p.client))))
    (λ q. record { nonce = q.0; expires = q.1.0; offered = q.1.1.0; client = q.1.1.1 }) (λ _. refl)
