-- What is judged is the server with the users exchanged.
use Rattle.std.proofs.Common.{subst}
use Rattle.std.specs.Prelude.{⊤}
use Rattle.stun_base.specs.Words.{next_words}
use Rattle.stun_judging.specs.Reading.{reading_of}
use Rattle.stun_auth.specs.Reasons.{ServerUnlessMemory}
use Rattle.stun_auth.specs.Validation.{ServerSeen, ValidatesAccepted, sight}
use Rattle.stun_auth.proofs.server.LongTermServerAuth.validate_incoming_message_of.Goals as goal

pub returns-clause-accepted : goal.returns-clause-accepted
returns-clause-accepted g c =
    let words = next_words 16 (g.R.Rng.stream c.args.rng.now) in
    let r = reading_of c.args.message.now in
    let given = c.validate_incoming_message-answer.result in
    subst
    (λ (s : ServerSeen). ServerUnlessMemory given
    (ValidatesAccepted (sight s c.args.from) c.args.now words r given) ⊤)
    c.exchange_users.ensures.server c.validate_incoming_message-answer.ensures.accepted
