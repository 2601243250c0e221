-- A header, ERROR-CODE and UNKNOWN-ATTRIBUTES.
use Rattle.std.proofs.Common.{arith}
use Rattle.stun_extra.proofs.AnswerLemmas.{length-refusing_answer}
use Rattle.stun_extra.proofs.unknown.answer.count_refusal_bytes.Goals as goal

pub returns-clause-value : goal.returns-clause-value
returns-clause-value c = omega (arith, length-refusing_answer c.args.known.now c.args.request.now)
