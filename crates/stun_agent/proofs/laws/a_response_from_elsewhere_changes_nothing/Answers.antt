-- A response from another address answers no request, and is ignored.
use Rattle.stun_base.specs.MessageType.{class_in}
use Rattle.stun_agent.proofs.AnswerLemmas.{elsewhere_unanswered}
use Rattle.stun_agent.proofs.ResponseLemmas.{unanswering_ignored}
use Rattle.stun_agent.proofs.laws.a_response_from_elsewhere_changes_nothing.Goals as goal

pub returns : goal.returns
returns c =
    λ moment bytes from agent t response there apart.
    unanswering_ignored (class_in bytes) moment bytes from agent response
    (elsewhere_unanswered bytes from agent t there apart)
