-- The two clauses of the call, in one.
use Rattle.std.proofs.Common.{subst}
use Rattle.stun_base.specs.Words.{next_words}
use Rattle.stun_types.specs.Message.{IsMessage}
use Rattle.stun_proto.proofs.server_runs.MadeLemmas.{is_validated}
use Rattle.stun_proto.proofs.laws.a_validation_is_made.Goals as goal

pub returns : goal.returns
returns g c =
    is_validated c.args.server.now c.validate_incoming_message.new.self c.args.from c.args.now
    (next_words 16 (g.R.Rng.stream c.args.rng.now)) c.args.message.now
    c.validate_incoming_message.result
    (subst IsMessage c.as_bytes-bytes.ensures.bytes c.as_bytes-bytes.ensures.message)
    c.validate_incoming_message.ensures.answer c.validate_incoming_message.ensures.state
