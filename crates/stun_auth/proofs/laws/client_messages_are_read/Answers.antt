-- A client adds attribute by attribute, so its message is read as what was added.
use Rattle.std.proofs.Common.{◌∙◌, ap, sym}
use Rattle.stun_judging.proofs.SignedReading.{reads_built}
use Rattle.stun_auth.proofs.laws.client_messages_are_read.Goals as goal
use Rattle.stun_judging.specs.Additions.{added_all}
use Rattle.stun_auth.specs.Signed.{added_by_client}

pub returns : goal.returns
returns c = λ request state class error message room page built texts done.
    let same = c.sides_add_by_attribute.ensures.client request state in
    let a = added_by_client request state in
    let added = sym (ap (λ list. added_all list (record { bytes = message; room = room })) same)
    ∙ done in
    reads_built a message class error page built
    (c.signed_messages_are_read.ensures a message room page built.unsigned texts added)
