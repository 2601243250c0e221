-- What an address can tell by the replies is what it can tell by the calls.
use Rattle.std.proofs.Common.{◌≡◌, Bool, true, false, ℕ, zero, suc, List, [], ◌∷◌, Option}
use Rattle.std.proofs.Common.{Some, None, refl, sym, ◌∙◌, ap, subst, take, Ok, Err}
use Rattle.std.specs.Prelude.{cond, not, ◌||◌, ◌↔◌, slice_get}
use Rattle.std.specs.Global.{Vec}
use Rattle.std.specs.declared.result.Result.{Result}
use Rattle.std.specs.declared.net.socket_addr.SocketAddr.{SocketAddr}
use Rattle.stun_base.specs.declared.keys.algorithm.IntegrityAlgorithm.{IntegrityAlgorithm}
use Rattle.stun_base.specs.declared.wire.error.StunParseError.{StunParseError}
use Rattle.stun_base.specs.declared.wire.error.StunWriteError.{StunWriteError}
use Rattle.stun_types.specs.Message.{refusal}
use Rattle.stun_judging.specs.Additions.{Page}
use Rattle.stun_base.specs.MessageType.{class_in, is_response}
use Rattle.stun_judging.specs.Reading.{Reading, reading_of, is_malformed}
use Rattle.stun_judging.specs.Verdict.{ClientSeen, client_of, named_user, or_refused, verdict}
use Rattle.stun_judging.specs.Verdict.{verdict_refusal as auth_refusal}
use Rattle.stun_auth.specs.Seen.{PlaceSeen}
use Rattle.stun_auth.specs.Server.{Sight, current_place}
use Rattle.stun_auth.specs.Validation.{AcceptedWith, ServerSeen, answer, answer_to, client_verified}
use Rattle.stun_auth.specs.Validation.{place_after, sight, validated_or_failed, with_accepted}
use Rattle.stun_proto.specs.Accepting.{ValidatesEachAccepted}
use Rattle.stun_proto.specs.Isolation.{concerns, own_calls, own_place_after, place_unless}
use Rattle.stun_proto.specs.Isolation.{sight_over}
use Rattle.stun_proto.specs.Replies.{Reads, client_by_reply, is_signed, message_read}
use Rattle.stun_proto.specs.Replies.{place_by_answer, place_by_message}
use Rattle.stun_proto.specs.Replies.{place_by_reply, place_by_signing, read_unless}
use Rattle.stun_proto.specs.Replies.{sight_by_reply, sight_by_replies}
use Rattle.stun_proto.specs.Serving.{Reply, Validated, after_call, after_calls}
use Rattle.stun_proto.specs.Serving.{expiry_after, feature_after, registered_after, replies}
use Rattle.stun_proto.specs.Serving.{reply, reply_of_answer, reply_of_signing, reply_unless}
use Rattle.stun_proto.specs.Signing.{if_signed, place_offered, signing}
use Rattle.stun_proto.specs.declared.replay.call.ServerCall.{ServerCall}
use Rattle.stun_proto.specs.declared.replay.call.ServerCall.TheVariants as Call
use Rattle.stun_proto.proofs.server_runs.IsolationLemmas.{one_address, other_step}
use Rattle.stun_proto.proofs.server_runs.IsolationLemmas.{own_step, sight-after_calls}

class_read : (bytes : List ℕ) → (reading_of bytes).class ≡ class_in bytes
unfolding reading_of
class_read bytes = refl

-- the place after a signing, by its reply and by the signing itself
signed_place : (o : Option StunParseError) (v : Sight) (m : Reading) (response : Bool)
    (signed : Result Page StunWriteError) → is_response m.class ≡ response
    → cond (is_signed (reply_unless o (reply_of_signing signed)))
    (place_by_signing v (read_unless o m)) v.place
    ≡ place_unless o v.place (if_signed signed v.place (place_offered v response))
signed_place (Some error) v m response signed h = refl
signed_place None v m response (Ok page) h = ap (place_offered v) h
signed_place None v m response (Err reason) h = refl

-- the place after a message, by its reply and by the verdict
answered_place : (v : Sight) (now : ℕ) (words : List ℕ) (r : Reading)
    → place_by_answer v now words r (reply_of_answer (answer v now words r))
    ≡ place_after v now words r
answered_place v now words r = by (is_response r.class) (is_malformed r)
  where
    p : PlaceSeen
    p = current_place v now words

    c : ClientSeen
    c = client_of v.registered v.feature p.nonce p.offered r

    by : (response malformed : Bool)
        → cond (not (response || malformed))
        (Some (client_by_reply p (named_user v.registered v.feature r)
        (reply_of_answer
        (cond response (validated_or_failed (client_verified v.registered r v.place))
        (answer_to (verdict v.registered v.feature p.nonce p.offered r)))))) v.place
        ≡ cond (not (response || malformed))
        (Some (with_accepted p (verdict v.registered v.feature p.nonce p.offered r))) v.place
    by true malformed = refl
    by false true = refl
    by false false =
        elim (auth_refusal v.registered v.feature p.nonce p.offered r) as (λ refused.
        Some (client_by_reply p (named_user v.registered v.feature r)
        (reply_of_answer (answer_to (or_refused refused c))))
        ≡ Some (with_accepted p (or_refused refused c))) [
          | None ↦ refl
          | Some reason ↦ refl
        ]

judged_place : (o : Option StunParseError) (v : Sight) (now : ℕ) (words : List ℕ) (r : Reading)
    → place_by_message v now words (read_unless o r)
    (reply_unless o (reply_of_answer (answer v now words r)))
    ≡ place_unless o v.place (place_after v now words r)
judged_place (Some error) v now words r = refl
judged_place None v now words r = answered_place v now words r

own_place_told : (a : SocketAddr) (call : ServerCall) (s : ServerSeen) → concerns a call ≡ true
    → place_by_reply message_read (sight s a) call (reply s call) ≡ own_place_after (sight s a) call
own_place_told a (Call.Validate from now message words) s h =
    let P : SocketAddr
    → Type 0 =
    λ b. place_by_reply message_read (sight s a) (Call.Validate b now message words)
    (reply s (Call.Validate b now message words))
    ≡ own_place_after (sight s a) (Call.Validate b now message words) in
    subst P (sym (one_address from a h))
    (judged_place (refusal message.items) (sight s a) now words (reading_of message.items))
own_place_told a (Call.Sign to message) s h =
    let P : SocketAddr
    → Type 0 =
    λ b. place_by_reply message_read (sight s a) (Call.Sign b message)
    (reply s (Call.Sign b message)) ≡ own_place_after (sight s a) (Call.Sign b message) in
    subst P (sym (one_address to a h))
    (signed_place (refusal message.items) (sight s a) (reading_of message.items)
    (is_response (class_in message.items)) (signing (sight s a) message.items)
    (ap is_response (class_read message.items)))
own_place_told a (Call.AddUser name password) s h = refl
own_place_told a (Call.RemoveUser name) s h = refl
own_place_told a (Call.AddIntegrity algorithm) s h = refl
own_place_told a (Call.SetIntegrity algorithm) s h = refl
own_place_told a (Call.SetAnonymous feature) s h = refl
own_place_told a (Call.RemoveClient b) s h = refl
own_place_told a (Call.SetExpiry expiry) s h = refl
own_place_told a (Call.ForgetExpired now) s h = refl
own_place_told a (Call.Forget b) s h = refl

abbrev with_place : Sight → ServerCall → Option PlaceSeen → Sight
with_place s call place = record {
  registered = registered_after s.registered call;
  feature = feature_after s.feature call;
  expiry = expiry_after s.expiry call;
  place = place;
}

told_step : (a : SocketAddr) (call : ServerCall) (s : ServerSeen) → concerns a call ≡ true
    → sight_by_reply message_read (sight s a) call (reply s call) ≡ sight (after_call s call) a
told_step a call s h =
    ap (with_place (sight s a) call) (own_place_told a call s h) ∙ sym (own_step a call s h)

told_over : (a : SocketAddr) (calls : List ServerCall) (i : ℕ) (s : ServerSeen)
    → sight_by_replies message_read a (sight s a) (take i calls) (replies s calls)
    ≡ sight (after_calls s (take i calls)) a
told_over a [] zero s = refl
told_over a [] (suc i) s = refl
told_over a (call ∷ calls) zero s = refl
told_over a (call ∷ calls) (suc i) s =
    let rest = replies (after_call s call) calls in
    elim (concerns a call) as (λ b. concerns a call ≡ b
    → cond b
    (sight_by_replies message_read a (sight_by_reply message_read (sight s a) call (reply s call))
    (take i calls) rest) (sight_by_replies message_read a (sight s a) (take i calls) rest)
    ≡ sight (after_calls (after_call s call) (take i calls)) a) [
      | true ↦ λ h. ap (λ v. sight_by_replies message_read a v (take i calls) rest)
          (told_step a call s h) ∙ told_over a calls i (after_call s call)
      | false ↦ λ h. ap (λ v. sight_by_replies message_read a v (take i calls) rest)
          (sym (other_step a call s h)) ∙ told_over a calls i (after_call s call)
    ] refl

-- bytes that read as a message are one, and say this
pub reads_as : (o : Option StunParseError) (r m : Reading) → read_unless o r ≡ Some m
    → (o ≡ None) × (r ≡ m)
reads_as None r m h = (refl, cc)
reads_as (Some error) r m h = cc

-- the field `validated` of the first sentence
abbrev pub ValidatesByReplies : Reads → ServerSeen → List ServerCall → List Reply → Type 0
ValidatesByReplies read start calls given =
    (i : ℕ) (from : SocketAddr) (now : ℕ) (message : Vec ℕ) (words : List ℕ) (m : Reading)
    (a : IntegrityAlgorithm)
    → slice_get calls i ≡ Some (Call.Validate from now message words) → read message.items ≡ Some m
    → is_response m.class ≡ false
    → (slice_get given i ≡ Some (Validated a))
    ↔ AcceptedWith (sight_by_replies read from (sight start from) (take i calls) given) now
    words m a

pub validates_by_replies : (s : ServerSeen) (calls : List ServerCall)
    → ValidatesEachAccepted s calls (replies s calls)
    → ValidatesByReplies message_read s calls (replies s calls)
validates_by_replies s calls accepted i a now message words m algorithm at reads asks =
    let is = reads_as (refusal message.items) (reading_of message.items) m reads in
    let same : sight_over (sight s a) (own_calls a (take i calls))
    ≡ sight_by_replies message_read a (sight s a) (take i calls) (replies s calls) =
    sym (told_over a calls i s ∙ sight-after_calls a (take i calls) s) in
    let plain : is_response (class_in message.items) ≡ false =
    ap is_response (sym (class_read message.items) ∙ ap (λ (x : Reading). x.class) is.1) ∙ asks in
    let exact = accepted i a now message words algorithm at is.0 plain in (
      (λ got. subst
          (λ (x : Reading).
          AcceptedWith
          (sight_by_replies message_read a (sight s a) (take i calls) (replies s calls)) now words x
          algorithm) is.1
          (subst (λ v. AcceptedWith v now words (reading_of message.items) algorithm) same
          (exact.0 got))),
      (λ given.
          exact.1 (subst (λ v. AcceptedWith v now words (reading_of message.items) algorithm)
          (sym same)
          (subst (λ (x : Reading).
          AcceptedWith
          (sight_by_replies message_read a (sight s a) (take i calls) (replies s calls)) now words x
          algorithm) (sym is.1) given))),
    )
