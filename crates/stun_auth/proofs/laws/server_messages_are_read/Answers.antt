-- A server adds attribute by attribute, so its message is read as what was added.
use Rattle.std.proofs.Common.{◌∙◌, sym}
use Rattle.stun_judging.proofs.SignedReading.{reads_built}
use Rattle.stun_auth.proofs.laws.server_messages_are_read.Goals as goal

pub returns : goal.returns
returns c = λ s response a class error message room page built is texts done.
    let same =
    c.sides_add_by_attribute.ensures.server s response (record { bytes = message; room = room })
    a is in
    let added = sym same ∙ done in
    reads_built a message class error page built
    (c.signed_messages_are_read.ensures a message room page built.unsigned texts added)
