-- The bytes of each read follow those of the reads before it.
use Rattle.std.proofs.Common.{rules, ◌+◌, ◌<◌, arith, inl, length, subst}
use Rattle.std.specs.Io.KnownBytes.{Consumes}
use Rattle.std.proofs.KnownBytes.{Consumes-trans, Consumes-kept}
use Rattle.stun_cli.proofs.Reading.{all_given, had_more_than, asked_again}
use Rattle.stun_cli.proofs.input.read_to_end.Goals as goal
use Rattle.stun_cli.proofs.input.read_to_end.Goals.{
  in-Ok+else-count-most+in_ok-extend_from_slice-in-Ok,
  in-Err+else-ne,
}

pub returns-in-Ok-eq0-clause-all : goal.returns-in-Ok-eq0-clause-all
returns-in-Ok-eq0-clause-all g c =
    all_given _ _ _ _ _ _ c.loop-turn.invariant.0 c.in-Ok-eq0.ensures.bytes c.in-Ok-eq0.field-0-test
    (search rules)

pub loop-turn-preserved : goal.loop-turn-preserved
loop-turn-preserved g c = elim c.match-ask.branch [
  | in-Ok+else-count-most+in_ok-extend_from_slice-in-Ok w ↦ (
    subst (Consumes _ _) (search rules)
        (Consumes-trans _ _ _ _ _ c.loop-turn.invariant.0 w.in-Ok.ensures.bytes.0),
    search rules,
    asked_again _ _ _ _ c.loop-turn.invariant.2 c.ask.ensures.counted,
  )
  | in-Err+else-ne w ↦ (
    subst (Consumes _ _) (search rules)
        (Consumes-kept _ _ _ _ c.loop-turn.invariant.0 w.in-Err.ensures.bytes),
    search rules,
    asked_again _ _ _ _ c.loop-turn.invariant.2 c.ask.ensures.counted,
  )
]

pub returns-then-count-most-clause-reason : goal.returns-then-count-most-clause-reason
returns-then-count-most-clause-reason g c =
    let more : c.args.most < length c.loop-turn.bytes.items + c.in-Ok.count = omega arith in
    inl (had_more_than _ _ _ _ _ _ _ c.loop-turn.invariant.0 c.in-Ok.ensures.bytes
    c.in-Ok.ensures.bound.1 more)
