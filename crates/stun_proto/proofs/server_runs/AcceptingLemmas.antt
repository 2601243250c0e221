-- Each message of a run that is accepted is validated, and no other.
use Rattle.std.proofs.Common.{◌≡◌, ℕ, zero, suc, List, [], ◌∷◌, Option}
use Rattle.std.proofs.Common.{Some, refl, sym, ◌∙◌, ap, take, Ok, Err}
use Rattle.std.specs.Prelude.{slice_get}
use Rattle.stun_base.specs.declared.keys.algorithm.IntegrityAlgorithm.{IntegrityAlgorithm}
use Rattle.stun_base.specs.declared.wire.error.StunParseError.{StunParseError}
use Rattle.stun_base.specs.MessageType.{class_in, is_response}
use Rattle.stun_judging.specs.Reading.{Reading, reading_of}
use Rattle.stun_auth.specs.Server.{Sight}
use Rattle.stun_auth.specs.Validation as validation
use Rattle.stun_auth.specs.Validation.{Answer, ServerSeen, answer, sight}
use Rattle.stun_auth.specs.declared.server.reason.LongTermServerValidation.TheVariants as Validation
use Rattle.stun_proto.specs.Accepting.{ValidatesEachAccepted}
use Rattle.stun_proto.specs.Isolation.{own_calls, sight_over}
use Rattle.stun_proto.specs.Serving.{Validated, reply, reply_of_answer}
use Rattle.stun_proto.specs.Serving.{reply_unless, replies, after_call, after_calls}
use Rattle.stun_proto.specs.declared.replay.call.ServerCall.{ServerCall}
use Rattle.stun_proto.specs.declared.replay.call.ServerCall.TheVariants as Call
use Rattle.stun_proto.proofs.server_runs.IsolationLemmas.{sight-after_calls}

-- the reply at a place is the reply to the call there, over the calls before it
pub reply_at : (s : ServerSeen) (calls : List ServerCall) (i : ℕ) (call : ServerCall)
    → slice_get calls i ≡ Some call
    → slice_get (replies s calls) i ≡ Some (reply (after_calls s (take i calls)) call)
reply_at s [] i call h = cc
reply_at s (c ∷ calls) zero call h = let same : c ≡ call = cc in ap (λ x. Some (reply s x)) same
reply_at s (c ∷ calls) (suc i) call h = reply_at (after_call s c) calls i call h

same_value : {X : Type 0} (x y : X) → Some x ≡ Some y → x ≡ y
same_value x y h = cc

-- a reply says that a message is validated exactly where the answer does
told : (given : Answer) (a : IntegrityAlgorithm) → reply_of_answer given ≡ Validated a
    → given ≡ Ok (Validation.Validated a)
told (Ok (Validation.Validated b)) a h = let same : b ≡ a =
    cc in ap (λ x. Ok (Validation.Validated x)) same
told (Err reason) a h = cc

class_read : (bytes : List ℕ) → (reading_of bytes).class ≡ class_in bytes
unfolding reading_of
class_read bytes = refl

pub validates_accepted : ((s : Sight) (now : ℕ) (words : List ℕ) (r : Reading)
    → validation.ValidatesAccepted s now words r (answer s now words r))
    → (s : ServerSeen) (calls : List ServerCall) → ValidatesEachAccepted s calls (replies s calls)
validates_accepted law s calls i a now message words algorithm at is_message plain =
    let here = sight_over (sight s a) (own_calls a (take i calls)) in
    let r = reading_of message.items in
    let exact =
    law here now words r (ap is_response (class_read message.items) ∙ plain) algorithm in
    let replied : slice_get (replies s calls) i ≡ Some (reply_of_answer (answer here now words r)) =
    reply_at s calls i (Call.Validate a now message words) at
    ∙ ap (λ (o : Option StunParseError).
    Some (reply_unless o
    (reply_of_answer (answer (sight (after_calls s (take i calls)) a) now words r)))) is_message
    ∙ ap (λ v. Some (reply_of_answer (answer v now words r)))
    (sight-after_calls a (take i calls) s) in (
      (λ got. exact.0
          (told (answer here now words r) algorithm (same_value _ _ (sym replied ∙ got)))),
      (λ accepted. replied ∙ ap (λ v. Some (reply_of_answer v)) (exact.1 accepted)),
    )
