-- What follows the deciding attribute is not read: no attribute that is read of a message is
-- FINGERPRINT.
use Rattle.std.proofs.Common.{◌≡◌, ℕ, List}
use Rattle.std.proofs.Common.{refl, sym, ◌∙◌, ap}
use Rattle.std.specs.Prelude.{Option, Some, None}
use Rattle.stun_types.specs.Integrity.{integrity_refusal}
use Rattle.stun_types.specs.Integrity.{deciding_refusal}
use Rattle.stun_types.specs.Tail.{AgreeUpToIntegrity}
use Rattle.stun_auth.specs.ShortTerm.{Secret, short_term_answer, algorithm_or_refusal}
use Rattle.stun_judging.proofs.TailReading.{ReadAlike}

pub short_term-alike : (secret : Option Secret) (bytes others : List ℕ)
    → AgreeUpToIntegrity bytes others → ReadAlike bytes others
    → short_term_answer secret bytes ≡ short_term_answer secret others
short_term-alike None bytes others agree alike = refl
short_term-alike (Some secret) bytes others agree alike =
    let refused : integrity_refusal bytes ≡ integrity_refusal others =
    ap deciding_refusal (agree.decides ∙ sym agree.decides_other) in
    λ i. algorithm_or_refusal (alike.verdict (λ _. secret.password) i) (refused i)
