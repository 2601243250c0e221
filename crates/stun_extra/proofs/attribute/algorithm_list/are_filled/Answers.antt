-- Each entry that is passed takes its bytes, and after the last one none is left.
use Rattle.std.proofs.Common.{◌≡◌, length, ap, sym, ◌∙◌}
use Rattle.std.specs.Prelude.{nat_eq}
use Rattle.stun_extra.proofs.AlgorithmListLemmas.{ended, passed}
use Rattle.stun_extra.proofs.attribute.algorithm_list.are_filled.Goals as goal

pub loop-entry-preserved : goal.loop-entry-preserved
loop-entry-preserved c =
    let p =
    passed c.loop-entry.place c.padded_len-place.result c.args.bytes.now c.in-Some.entry
    c.in-Some.ensures.whole c.in-Some.ensures.value c.padded_len-place.ensures in
    sym p.filled ∙ c.loop-entry.invariant

pub returns : goal.returns
returns c =
    ap (λ n. nat_eq n (length c.args.bytes.now))
    (ended c.loop-entry.place c.args.bytes.now c.in_default.ensures.none c.loop-entry.invariant)
