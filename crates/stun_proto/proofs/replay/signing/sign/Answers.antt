-- The bytes are read, signed, and the reply is of what was signed.
use Rattle.std.proofs.Common.{◌≡◌, List, ℕ, subst, OnOk}
use Rattle.stun_judging.specs.Additions.{UnlessMemory}
use Rattle.stun_base.specs.MessageType.{class_in, is_response}
use Rattle.stun_auth.specs.ServerSigning.{after_signing}
use Rattle.stun_auth.specs.Validation.{sight}
use Rattle.stun_proto.specs.code.Signed.{signed_page}
use Rattle.stun_proto.specs.Signing.{signing}
use Rattle.stun_proto.proofs.meetings.SigningLemmas.{either_signed, left_by_bytes, told_signing}
use Rattle.stun_proto.proofs.server_runs.ValidateLemmas.{no_reply, on_given}
use Rattle.stun_proto.proofs.server_runs.ValidateLemmas.{on_none_given, reply_given}
use Rattle.stun_proto.proofs.replay.signing.sign.Goals as goal

pub returns-clause-reply : goal.returns-clause-reply
returns-clause-reply g c =
    let s = c.args.server.now in
    let Told : List ℕ
    → Type 0 =
    λ m. UnlessMemory c.sign_message.result
    (signed_page c.sign_message.result ≡ signing (sight s c.args.to) m) (Unit {0}) in
    either_signed c.sign_message.result
    (λ given told. reply_given c.reply_to_signing.result _ _
    (told_signing (sight s c.args.to) c.args.bytes.now _ c.in-Ok.ensures.accepted told) given)
    (λ none told. no_reply c.reply_to_signing.result _ none)
    c.reply_to_signing.ensures (subst Told c.in-Ok.ensures.value c.sign_message.ensures.answer)

pub returns-clause-server : goal.returns-clause-server
returns-clause-server g c =
    let s = c.args.server.now in
    let Told : List ℕ
    → Type 0 =
    λ m. UnlessMemory c.sign_message.result
    (signed_page c.sign_message.result ≡ signing (sight s c.args.to) m) (Unit {0}) in
    let Left : List ℕ
    → Type 0 =
    λ m. OnOk c.sign_message.result
    (c.sign_message.new.server ≡ after_signing s c.args.to (is_response (class_in m))) in
    either_signed c.sign_message.result
    (λ given told. on_given c.reply_to_signing.result _
    (left_by_bytes s c.sign_message.new.server c.args.to (is_response (class_in c.args.bytes.now))
    c.args.bytes.now _ c.sign_message.result c.in-Ok.ensures.accepted told
    (subst Left c.in-Ok.ensures.value c.sign_message.ensures.signed)
    c.sign_message.ensures.refused))
    (λ none told. on_none_given c.reply_to_signing.result _ none)
    c.reply_to_signing.ensures (subst Told c.in-Ok.ensures.value c.sign_message.ensures.answer)
