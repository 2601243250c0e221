-- A call that signs is answered for the bytes that it holds; the others are as they are.
use Rattle.std.proofs.Common.{◌≡◌, List, ℕ, sym, subst, IfOk, OnOk}
use Rattle.stun_types.specs.Message.{refusal}
use Rattle.stun_base.specs.MessageType.{class_in, is_response}
use Rattle.stun_auth.specs.ServerSigning.{after_signing}
use Rattle.stun_auth.specs.Validation.{sight}
use Rattle.stun_proto.specs.Serving.{after_call, places_unless, reply}
use Rattle.stun_proto.specs.Serving.{reply_of, reply_of_signing, reply_unless}
use Rattle.stun_proto.specs.Signing.{if_signed, signing}
use Rattle.stun_proto.specs.declared.replay.call.ServerCall.{ServerCall}
use Rattle.stun_proto.proofs.replay.serving.serve_call.Goals as goal

pub returns-in-Sign-clause-reply : goal.returns-in-Sign-clause-reply
returns-in-Sign-clause-reply g c =
    let s = c.args.server.now in
    let v = c.in-Sign in
    let P : List ℕ
    → Type 0 =
    λ bytes.
    IfOk c.sign.result
    (λ given. reply_of given
    ≡ reply_unless (refusal bytes) (reply_of_signing (signing (sight s v.to) bytes))) in
    let Q : ServerCall
    → Type 0 = λ call. IfOk c.sign.result (λ given. reply_of given ≡ reply s call) in
    subst Q (sym v.is) (subst P c.as_slice-in-Sign.ensures.value c.sign.ensures.reply)

pub returns-in-Sign-clause-server : goal.returns-in-Sign-clause-server
returns-in-Sign-clause-server g c =
    let s = c.args.server.now in
    let v = c.in-Sign in
    let P : List ℕ → Type 0 = λ bytes. OnOk c.sign.result (c.sign.new.server ≡ record s {
      places = places_unless (refusal bytes) s.places
          (if_signed (signing (sight s v.to) bytes) s.places
          (after_signing s v.to (is_response (class_in bytes))).places);
    }) in
    let Q : ServerCall
    → Type 0 = λ call. OnOk c.sign.result (c.sign.new.server ≡ after_call s call) in
    subst Q (sym v.is) (subst P c.as_slice-in-Sign.ensures.value c.sign.ensures.server)
