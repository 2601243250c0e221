-- The clauses of the call, in one.
use Rattle.stun_proto.proofs.server_runs.MadeLemmas.{is_signed}
use Rattle.stun_proto.proofs.laws.a_signing_is_made.Goals as goal

pub returns-clause-made : goal.returns-clause-made
returns-clause-made g c =
    is_signed g.W.MessageWrite.bytes g.W.MessageWrite.room c.args.server.now c.sign_outgoing_message.new.self c.args.to
    c.args.writer c.sign_outgoing_message.result _ c.requires
    c.sign_outgoing_message.ensures.answer c.sign_outgoing_message.ensures.signed
    c.sign_outgoing_message.ensures.refused
