-- What is after the deciding attribute does not count.
use Rattle.std.proofs.Common.{◌≡◌, ℕ, ◌+◌, ◌-◌, ◌≤◌, List, length}
use Rattle.std.proofs.Common.{take, refl, sym, ◌∙◌, ap, subst, arith}
use Rattle.std.specs.Prelude.{Some, None, IfSome}
use Rattle.std.specs.Option.{option_or, option_and_then}
use Rattle.std.proofs.lemmas.List.{length-take-le}
use Rattle.stun_base.specs.Attributes.{MESSAGE_INTEGRITY, MESSAGE_INTEGRITY_SHA256}
use Rattle.stun_base.specs.declared.keys.algorithm.IntegrityAlgorithm.{IntegrityAlgorithm}
use Rattle.stun_types.specs.Integrity.{covered_bytes, deciding, first_of, verified_at, verified_by}
use Rattle.stun_types.specs.Message.{with_length}
use Rattle.stun_types.specs.Visible.{visible}
use Rattle.stun_types.specs.Walk.{Member}
use Rattle.stun_types.specs.code.Walk.{IsInside}
use Rattle.stun_types.proofs.IntegrityLemmas.{first_of-within}
use Rattle.stun_types.proofs.SigningLemmas.{with_length-again}

-- the deciding attribute is after the header and within the bytes
deciding-within : (bytes : List ℕ) → IfSome (deciding bytes) (IsInside bytes)
deciding-within bytes =
    elim (first_of MESSAGE_INTEGRITY_SHA256 (visible bytes)) as (λ found.
    IfSome found (IsInside bytes)
    → IfSome (option_or found (first_of MESSAGE_INTEGRITY (visible bytes))) (IsInside bytes)) [
      | Some m ↦ λ within. within
      | None ↦ λ within. first_of-within MESSAGE_INTEGRITY bytes
    ] (first_of-within MESSAGE_INTEGRITY_SHA256 bytes)

-- the bytes before it are more than a header
pub long_before : (bytes : List ℕ) (m : Member) → deciding bytes ≡ Some m
    → 20 ≤ length (take m.0 bytes)
long_before bytes m decides =
    let within : IsInside bytes m =
    subst (λ found. IfSome found (IsInside bytes)) decides (deciding-within bytes) in
    let long = length-take-le m.0 bytes (omega (arith, within.whole)) in
    omega (arith, long, within.behind_header)

-- where the length field alone differs before it, the same is covered
covered_bytes-same : (bytes others : List ℕ) (m : Member) (count : ℕ) → 20 ≤ length (take m.0 bytes)
    → 20 ≤ length (take m.0 others)
    → with_length (take m.0 bytes) 0 ≡ with_length (take m.0 others) 0
    → covered_bytes bytes m.0 count ≡ covered_bytes others m.0 count
covered_bytes-same bytes others m count long other_long same =
    let n = m.0 + 4 + count - 20 in
    sym (with_length-again (take m.0 bytes) 0 n long)
    ∙ (ap (λ xs. with_length xs n) same ∙ with_length-again (take m.0 others) 0 n other_long)

-- so the same digest verifies
pub verified_by-tail : (keys : IntegrityAlgorithm → List ℕ) (bytes others : List ℕ) (m : Member)
    → deciding bytes ≡ Some m → deciding others ≡ Some m
    → with_length (take m.0 bytes) 0 ≡ with_length (take m.0 others) 0
    → verified_by keys bytes ≡ verified_by keys others
verified_by-tail keys bytes others m decides other_decides same =
    let covers =
    covered_bytes-same bytes others m (length m.1.value) (long_before bytes m decides)
    (long_before others m other_decides) same in
    ap (option_and_then (verified_at keys bytes)) decides
    ∙ (rw covers refl ∙ sym (ap (option_and_then (verified_at keys others)) other_decides))
