-- One call that a user makes of a server, by the clauses of that call.
use Rattle.std.proofs.Common.{◌≡◌, ◌≢◌, ℕ, Bool, List, Option, None}
use Rattle.std.proofs.Common.{refl, sym, subst, ap, ◌∙◌, Result, Ok, Err}
use Rattle.std.specs.Prelude.{IsErrOf, OnErr, OnOk}
use Rattle.std.specs.Global.{Vec}
use Rattle.std.specs.declared.net.socket_addr.SocketAddr.{SocketAddr}
use Rattle.stun_base.specs.MessageType.{class_in, is_response}
use Rattle.stun_base.specs.declared.wire.error.StunParseError.{StunParseError}
use Rattle.stun_base.specs.declared.wire.error.StunWriteError.{StunWriteError}
use Rattle.stun_base.specs.declared.wire.error.StunWriteError.TheVariants.{NotAllowed}
use Rattle.stun_base.specs.declared.wire.error.StunWriteError.TheVariants.{MessageIntegrityExists}
use Rattle.stun_base.specs.declared.wire.error.StunWriteError.TheVariants.{AttributeExists}
use Rattle.stun_base.specs.declared.wire.error.StunWriteError.TheVariants.{TooLarge, TooSmall}
use Rattle.stun_base.specs.declared.wire.error.StunWriteError.TheVariants.{IntegrityFailed}
use Rattle.stun_base.specs.declared.wire.error.StunWriteError.TheVariants.{OutOfMemory}
use Rattle.stun_types.specs.Message.{IsMessage, refusal}
use Rattle.stun_types.proofs.MessageLemmas.{refusal-none}
use Rattle.stun_auth.specs.declared.server.reason.LongTermServerAuthErrorReason.{
  LongTermServerAuthErrorReason,
}
use Rattle.stun_auth.specs.declared.server.reason.LongTermServerAuthErrorReason.TheVariants
    as Server
use Rattle.stun_judging.specs.Additions.{Page, UnlessMemory, page_in, written_page}
use Rattle.stun_judging.specs.Reading.{reading_of}
use Rattle.stun_auth.specs.Reasons.{ServerUnlessMemory}
use Rattle.stun_auth.specs.ServerSigning.{after_signing, server_signed}
use Rattle.stun_auth.specs.Validation.{Answer, ServerSeen, after_validation, answer, sight}
use Rattle.stun_proto.specs.ServerLoop.{IfMessage, IsMade, IsSignedInSome, Told}
use Rattle.stun_proto.specs.ServerLoop.{signed_or_refused, reply_with}
use Rattle.stun_proto.specs.Serving.{reply_of_answer, reply_of_signing}
use Rattle.stun_proto.specs.Signing.{written_anew}
use Rattle.stun_proto.specs.declared.replay.call.ServerCall.TheVariants as Call

-- two facts about an answer, where no allocation failed and where one did
both_told : {V : Type 0} (result : Result V LongTermServerAuthErrorReason) (P Q P' Q' R : Type 0)
    → (P → P' → R)
    → ServerUnlessMemory result P Q → ServerUnlessMemory result P' Q'
    → ServerUnlessMemory result R Q'
both_told (Ok v) P Q P' Q' R one a b = one a b
both_told (Err Server.Unauthorized) P Q P' Q' R one a b = one a b
both_told (Err Server.IntegrityFailed) P Q P' Q' R one a b = one a b
both_told (Err Server.UnsupportedFeature) P Q P' Q' R one a b = one a b
both_told (Err Server.BadRequest) P Q P' Q' R one a b = one a b
both_told (Err Server.StaleNonce) P Q P' Q' R one a b = one a b
both_told (Err Server.OutOfMemory) P Q P' Q' R one a b = b

pub made_validate : (s : ServerSeen) (from : SocketAddr) (now : ℕ) (message : Vec ℕ)
    (words bytes : List ℕ) (given : Answer) → message.items ≡ bytes → refusal bytes ≡ None
    → answer (sight s from) now words (reading_of bytes) ≡ given
    → IsMade s (Call.Validate from now message words)
    (reply_with (reply_of_answer given) (after_validation s from now words (reading_of bytes)))
made_validate s from now message words bytes given same is_message answered =
    let left : ServerSeen = after_validation s from now words (reading_of bytes) in
    let after : Told = reply_with (reply_of_answer given) left in
    let P : List ℕ → Type 0 = λ b. IfMessage s (refusal b) after
    (after ≡ reply_with (reply_of_answer (answer (sight s from) now words (reading_of b)))
    (after_validation s from now words (reading_of b))) in
    let Q : Option StunParseError → Type 0 = λ o. IfMessage s o after
    (after ≡ reply_with (reply_of_answer (answer (sight s from) now words (reading_of bytes)))
    left) in
    subst P (sym same)
    (subst Q (sym is_message) (ap (λ g. reply_with (reply_of_answer g) left) (sym answered)))

pub is_validated : (s t : ServerSeen) (from : SocketAddr) (now : ℕ) (words bytes : List ℕ)
    (given : Answer)
    → IsMessage bytes
    → ServerUnlessMemory given (given ≡ answer (sight s from) now words (reading_of bytes))
    (Unit {0})
    → ServerUnlessMemory given (t ≡ after_validation s from now words (reading_of bytes)) (t ≡ s)
    → ServerUnlessMemory given
    ((message : Vec ℕ) → message.items ≡ bytes
    → IsMade s (Call.Validate from now message words) (reply_with (reply_of_answer given) t))
    (t ≡ s)
is_validated s t from now words bytes given is_message answered left =
    let Says : Type 0 = given ≡ answer (sight s from) now words (reading_of bytes) in
    let Leaves : Type 0 = t ≡ after_validation s from now words (reading_of bytes) in
    let Makes : Type 0 = (message : Vec ℕ) → message.items ≡ bytes
    → IsMade s (Call.Validate from now message words) (reply_with (reply_of_answer given) t) in
    both_told given Says (Unit {0}) Leaves (t ≡ s) Makes
    (λ is after message same.
    subst (λ x. IsMade s (Call.Validate from now message words)
    (reply_with (reply_of_answer given) x))
    (sym after)
    (made_validate s from now message words bytes given same (refusal-none bytes is_message)
    (sym is)))
    answered left

-- ---- signing
pub made_sign : (s : ServerSeen) (to : SocketAddr) (message : Vec ℕ) (bytes : List ℕ) (room : ℕ)
    (response : Bool) (signed : Result Page StunWriteError)
    → message.items ≡ bytes → refusal bytes ≡ None → written_anew bytes ≡ Ok bytes
    → is_response (class_in bytes) ≡ response
    → signed ≡ server_signed (sight s to) response (record { bytes = bytes; room = room })
    → signed ≢ Err TooSmall
    → IsMade s (Call.Sign to message) (signed_or_refused s (after_signing s to response) signed)
made_sign s to message bytes room response signed same is_message plain class_is answered
    not_small =
    let after : Told = signed_or_refused s (after_signing s to response) signed in
    let page : Page = record { bytes = bytes; room = room } in
    let Signs : List ℕ → Type 0 = λ b. IfMessage s (refusal b) after
    ((written_anew b ≡ Ok b) × (x : Result Page StunWriteError)
    × IsSignedInSome (sight s to) (is_response (class_in b)) b x
    × (after ≡ signed_or_refused s (after_signing s to (is_response (class_in b))) x)) in
    let Heard : Option StunParseError → Type 0 = λ o. IfMessage s o after
    ((written_anew bytes ≡ Ok bytes) × (x : Result Page StunWriteError)
    × IsSignedInSome (sight s to) (is_response (class_in bytes)) bytes x
    × (after ≡ signed_or_refused s (after_signing s to (is_response (class_in bytes))) x)) in
    subst Signs (sym same)
    (subst Heard (sym is_message) (
      plain,
      signed,
      (
        room,
        answered ∙ sym (ap (λ r. server_signed (sight s to) r page) class_is),
        not_small,
      ),
      sym (ap (λ r. signed_or_refused s (after_signing s to r) signed) class_is),
    ))

unless_memory : {V : Type 0} (result : Result V StunWriteError) (P Q R S : Type 0) → (P → R)
    → OnErr result S
    → UnlessMemory result P Q → UnlessMemory result R S
unless_memory (Ok v) P Q R S f err a = f a
unless_memory (Err NotAllowed) P Q R S f err a = f a
unless_memory (Err MessageIntegrityExists) P Q R S f err a = f a
unless_memory (Err (AttributeExists kind)) P Q R S f err a = f a
unless_memory (Err TooLarge) P Q R S f err a = f a
unless_memory (Err TooSmall) P Q R S f err a = f a
unless_memory (Err IntegrityFailed) P Q R S f err a = f a
unless_memory (Err OutOfMemory) P Q R S f err a = err

-- a call in a writer
module _ {W : Type 0} (bytes_in : W → List ℕ) (room_in : W → ℕ) where
  -- the server after it, as its clauses have it
  left_by : (s t signed : ServerSeen) (result : Result W StunWriteError)
      → OnOk result (t ≡ signed) → OnErr result (t ≡ s)
      → signed_or_refused s signed (written_page bytes_in room_in result)
      ≡ reply_with (reply_of_signing (written_page bytes_in room_in result)) t
  left_by s t signed (Ok w) ok err =
      ap (reply_with (reply_of_signing (written_page bytes_in room_in (Ok w)))) (sym ok)
  left_by s t signed (Err reason) ok err =
      ap (reply_with (reply_of_signing (written_page bytes_in room_in (Err reason)))) (sym err)

  has_room : (result : Result W StunWriteError) → (IsErrOf result TooSmall → ⊥)
      → written_page bytes_in room_in result ≢ Err TooSmall
  has_room (Ok w) not_small is = cc
  has_room (Err reason) not_small is =
      let same : reason ≡ TooSmall = cc in not_small (ap (λ e. Err e) same)

  pub is_signed : (s t : ServerSeen) (to : SocketAddr) (writer : W)
      (result : Result W StunWriteError) (Q : Type 0)
      → IsMessage (bytes_in writer)
      → UnlessMemory result
      (written_page bytes_in room_in result
      ≡ server_signed (sight s to) (is_response (class_in (bytes_in writer)))
      (page_in bytes_in room_in writer)) Q
      → OnOk result (t ≡ after_signing s to (is_response (class_in (bytes_in writer))))
      → OnErr result (t ≡ s)
      → UnlessMemory result
      ((message : Vec ℕ) → message.items ≡ bytes_in writer
      → written_anew (bytes_in writer) ≡ Ok (bytes_in writer)
      → (IsErrOf result TooSmall → ⊥)
      → IsMade s (Call.Sign to message)
      (reply_with (reply_of_signing (written_page bytes_in room_in result)) t))
      (t ≡ s)
  is_signed s t to writer result Q is_message answered ok err =
      let bytes = bytes_in writer in
      let response = is_response (class_in bytes) in
      let page = written_page bytes_in room_in result in
      let Says : Type 0 =
      page ≡ server_signed (sight s to) response (page_in bytes_in room_in writer) in
      let Makes : Type 0 = (message : Vec ℕ) → message.items ≡ bytes
      → written_anew bytes ≡ Ok bytes → (IsErrOf result TooSmall → ⊥)
      → IsMade s (Call.Sign to message) (reply_with (reply_of_signing page) t) in
      unless_memory result Says Q Makes (t ≡ s)
      (λ is message same plain not_small.
      subst (IsMade s (Call.Sign to message))
      (left_by s t (after_signing s to response) result ok err)
      (made_sign s to message bytes (room_in writer) response page same
      (refusal-none bytes is_message) plain refl is (has_room result not_small)))
      err answered
