-- A response of an id that is not outstanding answers no request, and is ignored.
use Rattle.stun_base.specs.MessageType.{class_in}
use Rattle.stun_agent.proofs.AnswerLemmas.{unknown_unanswered}
use Rattle.stun_agent.proofs.ResponseLemmas.{unanswering_ignored}
use Rattle.stun_agent.proofs.laws.a_response_to_no_request_changes_nothing.Goals as goal

pub returns : goal.returns
returns c =
    λ moment bytes from agent response none.
    unanswering_ignored (class_in bytes) moment bytes from agent response
    (unknown_unanswered bytes from agent none)
