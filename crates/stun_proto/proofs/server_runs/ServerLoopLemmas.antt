-- Each call that a user makes on a server is the call of a run.
use Rattle.std.proofs.Common.{◌≡◌, ℕ, Bool, true, false, cond, List, [], ◌∷◌, Option}
use Rattle.std.proofs.Common.{◌≤◌, length, Some, None, refl, sym, subst, ap, ◌∙◌, Result, Ok, Err}
use Rattle.std.proofs.lemmas.Bool.{ltb-false}
use Rattle.std.specs.Prelude.{nat_lt}
use Rattle.std.specs.Duration.{as_nanos}
use Rattle.std.specs.declared.net.socket_addr.SocketAddr.{SocketAddr}
use Rattle.stun_base.specs.MessageType.{class_in, is_response}
use Rattle.stun_base.specs.Header.{is_stun}
use Rattle.stun_base.specs.declared.wire.error.StunParseError.{StunParseError}
use Rattle.stun_base.specs.declared.wire.error.StunParseError.TheVariants.{NotStun, Truncated}
use Rattle.stun_base.specs.declared.wire.error.StunWriteError.{StunWriteError}
use Rattle.std.proofs.lemmas.List.{append-nil}
use Rattle.stun_types.specs.Message.{data_refusal, either_refusal, refusal}
use Rattle.stun_types.specs.Visible.{visible}
use Rattle.stun_types.specs.Walk.{attributes_of}
use Rattle.stun_types.proofs.AddingLemmas.{visible-open}
use Rattle.stun_judging.specs.Additions.{Page, page_of}
use Rattle.stun_judging.specs.Reading.{Reading, reading_of}
use Rattle.stun_auth.specs.Server.{Sight}
use Rattle.stun_auth.specs.ServerSigning.{after_signing, server_signed}
use Rattle.stun_auth.specs.Validation.{ServerSeen, after_validation, answer, sight}
use Rattle.stun_auth.specs.Validation as validation
use Rattle.stun_proto.specs.declared.replay.call.ServerCall.{ServerCall}
use Rattle.stun_proto.specs.declared.replay.call.ServerCall.TheVariants as Call
use Rattle.stun_proto.specs.Headline.{ValidatesEachCall}
use Rattle.stun_proto.specs.Isolation.{IsIsolated}
use Rattle.stun_proto.specs.Replies.{message_read}
use Rattle.stun_proto.specs.ServerLoop.{AreMade, BuiltAreWrittenSo, CallsAreServed}
use Rattle.stun_proto.specs.ServerLoop.{IfMessage, IsMade, IsSignedInSome, Told}
use Rattle.stun_proto.specs.ServerLoop.{signed_or_refused, reply_with}
use Rattle.stun_proto.specs.Serving.{Reply, Done, TooShort, after_call, after_calls}
use Rattle.stun_proto.specs.Serving.{is_too_short, places_unless, replies, reply}
use Rattle.stun_proto.specs.Serving.{reply_of_answer, reply_of_signing, reply_unless}
use Rattle.stun_proto.specs.Signing.{if_signed, next_if_written, refusal_at}
use Rattle.stun_proto.proofs.server_runs.AcceptingLemmas.{validates_accepted}
use Rattle.stun_proto.proofs.server_runs.AnyWriter.{signed_as_in_vector}
use Rattle.stun_proto.proofs.server_runs.Digests.{digest_held}
use Rattle.stun_proto.proofs.server_runs.IsolationLemmas.{is_isolated}
use Rattle.stun_proto.proofs.server_runs.RepliesLemmas.{ValidatesByReplies, validates_by_replies}
use Rattle.stun_proto.proofs.meetings.SigningLemmas.{ends_anew}

-- what is said of reply and server together
abbrev IsSaid : Told → Reply → ServerSeen → Type 0
IsSaid got r t = (got.reply ≡ r) × (got.server ≡ t)

said : (got : Told) (r : Reply) (t : ServerSeen) → got ≡ reply_with r t → IsSaid got r t
said got r t h = (ap (λ (x : Told). x.reply) h, ap (λ (x : Told). x.server) h)

-- ---- a message that is judged
judged : (s called : ServerSeen) (o : Option StunParseError) (got : Told) (r : Reply)
    → called ≡ record s { places = called.places }
    → IfMessage s o got (got ≡ reply_with r called)
    → IsSaid got (reply_unless o r)
    (record s { places = places_unless o s.places called.places })
judged s called (Some error) got r shape h = said got _ s h
judged s called None got r shape h = let is = said got r called h in (is.0, is.1 ∙ shape)

-- ---- a message that is signed
signing_shape : (s : ServerSeen) (to : SocketAddr) (response : Bool)
    → after_signing s to response ≡ record s { places = (after_signing s to response).places }
signing_shape s to true = refl
signing_shape s to false = refl

signed : (s after : ServerSeen) (got : Told) (outcome : Result Page StunWriteError)
    → after ≡ record s { places = after.places } → got ≡ signed_or_refused s after outcome
    → IsSaid got (reply_of_signing outcome)
    (record s { places = if_signed outcome s.places after.places })
signed s after got (Ok page) shape h = let is = said got _ after h in (is.0, is.1 ∙ shape)
signed s after got (Err error) shape h = said got _ s h

module _ (s : ServerSeen) (to : SocketAddr) (bytes : List ℕ) where
  abbrev response : Bool
  response = is_response (class_in bytes)

  abbrev after : ServerSeen
  after = after_signing s to response

  abbrev outcome : Result Page StunWriteError
  outcome = server_signed (sight s to) response (page_of bytes)

  -- the message is the one that is written anew
  same_signing : (written : Result (List ℕ) StunWriteError) → written ≡ Ok bytes
      → next_if_written written (λ anew. server_signed (sight s to) response (page_of anew))
      ≡ outcome
  same_signing written plain = ap
      (λ w. next_if_written w (λ anew. server_signed (sight s to) response (page_of anew))) plain

  by_message : (o : Option StunParseError) (written : Result (List ℕ) StunWriteError) (got : Told)
      → (o ≡ None → 20 ≤ length bytes)
      → IfMessage s o got ((written ≡ Ok bytes) × (signed : Result Page StunWriteError)
      × IsSignedInSome (sight s to) response bytes signed
      × (got ≡ signed_or_refused s after signed))
      → IsSaid got
      (reply_unless o (reply_of_signing
      (next_if_written written (λ anew. server_signed (sight s to) response (page_of anew)))))
      (record s {
        places = places_unless o s.places
            (if_signed (next_if_written written
            (λ anew. server_signed (sight s to) response (page_of anew))) s.places after.places);
      })
  by_message (Some error) written got long h = said got _ s h
  by_message None written got long (plain, some, in_some, h) =
      let in_vector = signed_as_in_vector (sight s to) s after response bytes some (long refl)
      in_some in
      let is = signed s after got outcome (signing_shape s to response) (h ∙ in_vector) in
      let same = sym (same_signing written plain) in (
        is.0 ∙ ap reply_of_signing same,
        is.1 ∙ ap (λ (x : Result Page StunWriteError). record s
            { places = if_signed x s.places after.places }) same,
      )

-- a message has a header
long_message : (bytes : List ℕ) → refusal bytes ≡ None → 20 ≤ length bytes
long_message bytes is = by (nat_lt (length bytes) 20) refl is
  where
    by : (b : Bool) → nat_lt (length bytes) 20 ≡ b
        → either_refusal (cond b (Some Truncated) (cond (is_stun bytes) None (Some NotStun)))
        (data_refusal bytes)
        ≡ None
        → 20 ≤ length bytes
    by true short is = cc
    by false not_short is = ltb-false (length bytes) 20 not_short

expiry_set : (s : ServerSeen) (short : Bool) (nanos : ℕ) (got : Told)
    → got ≡ cond short (reply_with TooShort s) (reply_with Done (record s { expiry = nanos }))
    → IsSaid got (cond short TooShort Done) (record s { expiry = cond short s.expiry nanos })
expiry_set s true nanos got h = said got TooShort s h
expiry_set s false nanos got h = said got Done (record s { expiry = nanos }) h

-- ---- one call
pub is_called : (s : ServerSeen) (call : ServerCall) (got : Told) → IsMade s call got
    → IsSaid got (reply s call) (after_call s call)
is_called s (Call.Validate from now message words) got h =
    judged s (after_validation s from now words (reading_of message.items))
    (refusal message.items) got
    (reply_of_answer (answer (sight s from) now words (reading_of message.items))) refl h
is_called s (Call.Sign to message) got h = by_message s to message.items (refusal message.items) _
    got (long_message message.items) h
is_called s (Call.AddUser name password) got h = said got Done _ h
is_called s (Call.RemoveUser name) got h = said got Done _ h
is_called s (Call.AddIntegrity algorithm) got h = said got Done _ h
is_called s (Call.SetIntegrity algorithm) got h = said got Done _ h
is_called s (Call.SetAnonymous feature) got h = said got Done _ h
is_called s (Call.RemoveClient address) got h = said got Done _ h
is_called s (Call.SetExpiry expiry) got h = expiry_set s (is_too_short expiry) (as_nanos expiry) got
    h
is_called s (Call.ForgetExpired now) got h = said got Done _ h
is_called s (Call.Forget address) got h = said got Done _ h

-- ---- a message that is built attribute by attribute
pub built_are_written_so : BuiltAreWrittenSo
built_are_written_so message attributes built =
    let seen : attributes_of (visible message) ≡ attributes =
    ap attributes_of (visible-open message built.is_open) ∙ built.found in
    sym
    (ends_anew message message
    (record {
      written = attributes;
      bytes_are = built.spelled_so;
      divided = seen ∙ sym (append-nil attributes);
      allowed = λ k below. ap (λ l. refusal_at message l k) seen ∙ built.allowed k below;
    }))

-- ---- a loop
pub calls_are_served : CallsAreServed
calls_are_served start last [] [] h = (refl, h)
calls_are_served start last [] (r ∷ given) h = absurd h
calls_are_served start last (call ∷ calls) [] h = absurd h
calls_are_served start last (call ∷ calls) (r ∷ given) (after, made, rest) =
    let one = is_called start call (reply_with r after) made in
    let more = calls_are_served after last calls given rest in (
      ap (λ x. x ∷ given) one.0
          ∙ ap (λ xs. reply start call ∷ xs) (more.0 ∙ ap (λ s. replies s calls) one.1),
      more.1 ∙ ap (λ s. after_calls s calls) one.1,
    )

pub calls_are_validated :
    ((s : Sight) (now : ℕ) (words : List ℕ) (r : Reading) → validation.ValidatesAccepted s now words
    r (answer s now words r))
    → (start last : ServerSeen) (calls : List ServerCall) (given : List Reply)
    → AreMade start calls given last
    → ValidatesEachCall message_read replies start calls given
calls_are_validated law start last calls given made =
    let replied = (calls_are_served start last calls given made).0 in
    record {
      replied = replied;
      validated = subst (ValidatesByReplies message_read start calls) (sym replied)
          (validates_by_replies start calls (validates_accepted law start calls));
      digest = digest_held;
      isolated = subst (IsIsolated start calls) (sym replied) (is_isolated start calls);
    }
