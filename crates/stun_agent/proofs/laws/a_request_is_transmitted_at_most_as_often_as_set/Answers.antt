-- Each transmission takes one of the slots that are left.
use Rattle.stun_agent.proofs.RepeatLemmas.{transmitted_at_most}
use Rattle.stun_agent.proofs.laws.a_request_is_transmitted_at_most_as_often_as_set.Goals as goal

pub returns : goal.returns
returns c =
    λ earlier later start bytes to now none accepted.
    transmitted_at_most earlier later start bytes to now none accepted
