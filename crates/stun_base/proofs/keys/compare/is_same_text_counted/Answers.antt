-- Joined by `or`, the differences of bytes by `xor` are zero if and only if each of them is.
use Rattle.std.proofs.Common.{◌≡◌, ℕ, ◌≤◌, List, length, take, take_all}
use Rattle.std.proofs.Common.{refl, ap, sym, ◌∙◌, arith, rules, bit_xor}
use Rattle.std.specs.Prelude.{◌==◌, ◌↔◌, IsTrue, slice_index}
use Rattle.std.proofs.Math.ListN.{get_or}
use Rattle.std.proofs.lemmas.List.{take_more_same}
use Rattle.stun_base.proofs.BitLemmas.{or_zero_first, or_zero_second, xor_zero_same, or_xor_self}
use Rattle.stun_base.proofs.keys.compare.is_same_text_counted.Goals as goal

-- what the differences of all bytes say
told : (difference i : ℕ) (one other : List ℕ) → length one ≤ i → length other ≤ i
    → (difference ≡ 0 → take i one ≡ take i other) → (one ≡ other → difference ≡ 0)
    → IsTrue (difference == 0) ↔ (one ≡ other)
told difference i one other all all-other found same =
    let none : IsTrue (difference == 0) → difference ≡ 0 = search rules in (
      λ yes. sym (take_all i one all) ∙ found (none yes) ∙ take_all i other all-other,
      λ equal. rw (same equal) refl,
    )

pub loop-preserved : goal.loop-preserved
loop-preserved c =
    let one = c.args.pairs.now.one in
    let other = c.args.pairs.now.other in
    let i = c.loop.counter in
    let inv = c.loop.invariant in
    let pair = c.read_pair-one.result in
    let of_one : pair.0 ≡ get_or one i 0 =
    c.read_pair-one.ensures.one ∙ ap (λ pairs. slice_index pairs.one pairs.read) inv.reads in
    let of_other : pair.1 ≡ get_or other i 0 =
    c.read_pair-one.ensures.other
    ∙ ap (λ pairs. slice_index pairs.other pairs.read) inv.reads in
    record {
      reads = search rules;
      found = λ none.
          let before = or_zero_first c.loop.difference (bit_xor pair.0 pair.1) none in
          let here = xor_zero_same pair.0 pair.1 (or_zero_second c.loop.difference _ none) in
          take_more_same one other i 0 (search arith) (search arith) (inv.found before)
          (sym of_one ∙ here ∙ of_other);
      same = λ all.
          let here = ap (λ bytes. get_or bytes i 0) all in
          rw (inv.same all) (or_xor_self pair.0 pair.1 (of_one ∙ here ∙ sym of_other));
    }

pub returns-clause-same : goal.returns-clause-same
returns-clause-same c =
    let inv = c.loop.invariant in
    told c.loop.difference c.loop.counter c.args.pairs.now.one c.args.pairs.now.other (search arith)
    (search arith) inv.found inv.same
