-- A built message with short texts and enough room is signable.
use Rattle.std.proofs.Common.{◌∙◌, ap}
use Rattle.std.specs.Result.{is_ok}
use Rattle.stun_judging.specs.Additions.{added_all}
use Rattle.stun_auth.specs.Signed.{added_by_client}
use Rattle.stun_auth.proofs.laws.sides_sign_with_room.Goals as goal

pub returns-clause-client : goal.returns-clause-client
returns-clause-client c = λ request state class error message room built short enough.
    let a = added_by_client request state in
    let signing = c.signing_succeeds_with_room.ensures in
    let signed =
    signing.succeeds a message room built.unsigned short.texts
    (signing.room a message room class error built short enough) in
    ap is_ok
    (ap (λ list. added_all list (record { bytes = message; room = room }))
    (c.sides_add_by_attribute.ensures.client request state) ∙ signed)

pub returns-clause-server : goal.returns-clause-server
returns-clause-server c = λ s response a class error message room built is short enough.
    let signing = c.signing_succeeds_with_room.ensures in
    let signed =
    signing.succeeds a message room built.unsigned short.texts
    (signing.room a message room class error built short enough) in
    ap is_ok
    (c.sides_add_by_attribute.ensures.server s response (record { bytes = message; room = room }) a
    is ∙ signed)
