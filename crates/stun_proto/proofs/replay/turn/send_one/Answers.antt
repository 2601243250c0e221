-- What `poll_transmit` lends is the step that is kept.
use Rattle.std.proofs.Common.{rules, ◌≡◌}
use Rattle.stun_agent.specs.Agent.{after_poll_transmit}
use Rattle.stun_proto.proofs.agent_runs.TurnLemmas.{sends_one}
use Rattle.stun_proto.proofs.replay.turn.send_one.Goals as goal

pub returns-clause-sends : goal.returns-clause-sends
returns-clause-sends g c =
    let passed : c.poll_transmit.follows.lender-at-none
    ≡ after_poll_transmit c.args.now c.args.agent.now = search rules in
    sends_one c.args.now c.args.agent.now c.poll_transmit.follows.lender-at-none _ _ _
    c.in-Some.ensures.sent c.in-Some.ensures.request passed
    (c.add.ensures.keeps _ c.make_transmitted_step-step.ensures.step)
