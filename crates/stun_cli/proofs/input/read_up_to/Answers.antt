-- The bytes of each read follow those of the reads before it.
use Rattle.std.proofs.Common.{rules, refl, subst}
use Rattle.stun_cli.specs.Input.{IsReadOn}
use Rattle.stun_cli.proofs.Reading.{asked_again, read_kept, read_more}
use Rattle.stun_cli.proofs.input.read_up_to.Goals as goal
use Rattle.stun_cli.proofs.input.read_up_to.Goals.{
  in-Ok+in_ok-extend_from_slice-in-Ok,
  in-Err+else-ne,
}

pub loop-turn-preserved : goal.loop-turn-preserved
loop-turn-preserved g c = elim c.match-ask.branch [
  | in-Ok+in_ok-extend_from_slice-in-Ok w ↦ (
    subst (IsReadOn _ _ _) (search rules)
        (read_more _ _ _ _ _ _ _ c.loop-turn.invariant.0 w.in-Ok.ensures.bytes.0 refl),
    asked_again _ _ _ _ c.loop-turn.invariant.1 c.ask.ensures.counted,
  )
  | in-Err+else-ne w ↦ (
    subst (IsReadOn _ _ _) (search rules)
        (read_kept _ _ _ _ _ c.loop-turn.invariant.0 w.in-Err.ensures.bytes),
    asked_again _ _ _ _ c.loop-turn.invariant.1 c.ask.ensures.counted,
  )
]
