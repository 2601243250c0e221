-- What is sent is due, and what is due has waited.
use Rattle.stun_agent.proofs.QuietLemmas.{due_waits, sent_is_due}
use Rattle.stun_agent.proofs.laws.a_request_is_never_sent_early.Goals as goal

pub returns : goal.returns
returns c = λ now agent e sent. due_waits agent.transport now e.1 (sent_is_due now agent e sent)
