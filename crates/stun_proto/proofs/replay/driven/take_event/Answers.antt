-- The turns lead up to the time of the event, and then it is applied.
use Rattle.stun_proto.proofs.agent_runs.DriveLemmas.{takes_whole, takes_turn_passes}
use Rattle.stun_proto.proofs.replay.driven.take_event.Goals as goal

pub returns-clause-whole : goal.returns-clause-whole
returns-clause-whole g c =
    takes_whole _ _ _ _ _ _ _ _ _ _ _ (rw c.as_nanos.ensures at c.take_turns.ensures.turns)
    c.in_ok-apply.ensures.whole c.take_turn.ensures.turn

pub returns-clause-passed : goal.returns-clause-passed
returns-clause-passed g c = takes_turn_passes _ _ _ _ _ c.take_turn.ensures.turn
