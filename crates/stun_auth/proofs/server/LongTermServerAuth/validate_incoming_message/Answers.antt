-- The answer of the table is an acceptance if and only if the conjunction holds.
use Rattle.std.proofs.Common.{sym, subst}
use Rattle.std.specs.Prelude.{⊤}
use Rattle.stun_base.specs.Words.{next_words}
use Rattle.stun_judging.specs.Reading.{reading_of}
use Rattle.stun_auth.specs.Reasons.{ServerUnlessMemory}
use Rattle.stun_auth.specs.Validation.{Answer, ValidatesAccepted, sight}
use Rattle.stun_auth.proofs.AcceptedAnswers.{answer-accepted}
use Rattle.stun_auth.proofs.Unchanged.{or_memory_map}
use Rattle.stun_auth.proofs.server.LongTermServerAuth.validate_incoming_message.Goals as goal

pub returns-clause-accepted : goal.returns-clause-accepted
returns-clause-accepted g c =
    let words = next_words 16 (g.R.Rng.stream c.args.rng.now) in
    let r = reading_of c.args.message.now in
    let s = sight c.args.self.now c.args.from in
    subst (λ (given : Answer). ServerUnlessMemory given
    (ValidatesAccepted s c.args.now words r given) ⊤)
    (sym c.wrap_reason.ensures)
    (or_memory_map ⊤ c.judge_incoming.result
    (λ is. subst (ValidatesAccepted s c.args.now words r) (sym is)
    (answer-accepted s c.args.now words r)) c.judge_incoming.ensures.answer)
