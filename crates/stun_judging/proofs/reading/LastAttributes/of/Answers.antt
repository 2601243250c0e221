-- One attribute more is noted, and the rest gives the same last ones.
use Rattle.std.proofs.Common.{sym, ◌∙◌, ap}
use Rattle.stun_judging.proofs.ReadingLemmas.{noted_from, noted-passed}
use Rattle.stun_judging.proofs.reading.LastAttributes.of.Goals as goal

pub loop-place-preserved : goal.loop-place-preserved
loop-place-preserved c =
    ap (λ last. noted_from last c.next.new.self) c.note.ensures
    ∙ sym (noted-passed c.loop-place.last (c.in-Some.place, c.in-Some.attribute) c.next.new.self)
    ∙ ap (noted_from c.loop-place.last) (sym c.in-Some.ensures.steps)
    ∙ c.loop-place.invariant
