-- One message is written anew and signed.
use Rattle.std.proofs.Common.{◌≡◌, ℕ, zero, suc, ◌+◌, ◌<◌, List, [], ◌∷◌, ◌++◌, length, Option}
use Rattle.std.proofs.Common.{Some, None, Bool, true, false, refl, sym, ◌∙◌, ap, subst}
use Rattle.std.proofs.Common.{append_assoc, arith, length-append, Ok, Err, OnOk, OnErr, MatchOption}
use Rattle.std.specs.Prelude.{filter_map, slice_get}
use Rattle.std.specs.List.{cons_option, range_with_len}
use Rattle.std.specs.Option.{option_and_then}
use Rattle.std.proofs.Math.Seq.{take-append_seam}
use Rattle.std.proofs.lemmas.List.{append-nil}
use borrow.Author.Count.{below_more}
use Rattle.stun_base.specs.Header.{transaction_id_field, type_field}
use Rattle.std.specs.declared.result.Result.{Result}
use Rattle.std.specs.declared.net.socket_addr.SocketAddr.{SocketAddr}
use Rattle.stun_base.specs.declared.wire.error.StunParseError.{StunParseError}
use Rattle.stun_base.specs.declared.wire.error.StunWriteError.{StunWriteError}
use Rattle.stun_base.specs.declared.wire.error.StunWriteError.TheVariants.{NotAllowed}
use Rattle.stun_base.specs.declared.wire.error.StunWriteError.TheVariants.{MessageIntegrityExists}
use Rattle.stun_base.specs.declared.wire.error.StunWriteError.TheVariants.{AttributeExists}
use Rattle.stun_base.specs.declared.wire.error.StunWriteError.TheVariants.{TooLarge, TooSmall}
use Rattle.stun_base.specs.declared.wire.error.StunWriteError.TheVariants.{IntegrityFailed}
use Rattle.stun_base.specs.declared.wire.error.StunWriteError.TheVariants.{OutOfMemory}
use Rattle.stun_types.specs.Attribute.{TypedValue}
use Rattle.stun_types.specs.Message.{refusal}
use Rattle.stun_types.specs.Visible.{visible}
use Rattle.stun_types.specs.Walk.{Member, attributes_of}
use Rattle.stun_types.specs.WriteVec.{Written}
use Rattle.stun_types.specs.Writing.{RefusedBy, SpellsOneMore}
use Rattle.stun_judging.specs.Additions.{Page, UnlessMemory}
use Rattle.stun_auth.specs.Server.{Sight}
use Rattle.stun_auth.specs.ServerSigning.{after_signing}
use Rattle.stun_auth.specs.Validation.{ServerSeen}
use Rattle.stun_proto.specs.Serving.{places_unless, reply_of_signing, reply_unless}
use Rattle.stun_proto.specs.code.Signed.{signed_page}
use Rattle.stun_proto.specs.Signing.{if_signed, message_unless, refusal_after}
use Rattle.stun_proto.specs.Signing.{refusal_at, signing, spelled_anew, written_anew}

-- what was added was not refused
pub not_refused : (o : Option StunWriteError) (u : Unit {0}) (P : Type 0)
    → MatchOption o P (λ reason. ◌≡◌ {A = Result (Unit {0}) StunWriteError} (Ok u) (Err reason))
    → o ≡ None
not_refused None u P h = refl
not_refused (Some reason) u P h = cc

-- ---- the first reason of a list
none_among : (reasons : ℕ → Option StunWriteError) (a n : ℕ)
    → ((k : ℕ) → k < n → reasons (a + k) ≡ None)
    → filter_map reasons (range_with_len a n) ≡ []
none_among reasons a zero none = refl
none_among reasons a (suc n) none =
    let same : a + 0 ≡ a = omega arith in
    let here : reasons a ≡ None = ap reasons (sym same) ∙ none 0 (omega arith) in
    let next : (k : ℕ) → (a + 1) + k ≡ a + suc k = λ k. omega arith in
    ap (λ o. cons_option o (filter_map reasons (range_with_len (a + 1) n))) here
    ∙ none_among reasons (a + 1) n (λ k below. ap reasons (next k) ∙ none (suc k) (omega arith))

first_among : (reasons : ℕ → Option StunWriteError) (a n k : ℕ) (reason : StunWriteError)
    → ((j : ℕ) → j < k → reasons (a + j) ≡ None) → k < n
    → reasons (a + k) ≡ Some reason
    → slice_get (filter_map reasons (range_with_len a n)) 0 ≡ Some reason
first_among reasons a zero k reason none within is = absurd (omega arith)
first_among reasons a (suc n) zero reason none within is =
    let same : a ≡ a + 0 = omega arith in
    ap (λ o. slice_get (cons_option o (filter_map reasons (range_with_len (a + 1) n))) 0)
    (ap reasons same ∙ is)
first_among reasons a (suc n) (suc k) reason none within is =
    let same : a ≡ a + 0 = omega arith in
    let next : (j : ℕ) → (a + 1) + j ≡ a + suc j = λ j. omega arith in
    ap (λ o. slice_get (cons_option o (filter_map reasons (range_with_len (a + 1) n))) 0)
    (ap reasons same ∙ none 0 (omega arith))
    ∙ first_among reasons (a + 1) n k reason
    (λ j below. ap reasons (next j) ∙ none (suc j) (omega arith)) (omega arith)
    (ap reasons (next k) ∙ is)

from_first : (k : ℕ) → 0 + k ≡ k
from_first k = omega arith

get_seam : (before after : List TypedValue) (a : TypedValue)
    → slice_get (before ++ a ∷ after) (length before) ≡ Some a
get_seam [] after a = refl
get_seam (b ∷ before) after a = get_seam before after a

-- a refusal is the reason, or memory was wanting
unless_memory : (e : StunWriteError) (P : Type 0) → P
    → UnlessMemory {V = Written} (Err e) P (Unit {0})
unless_memory NotAllowed P h = h
unless_memory MessageIntegrityExists P h = h
unless_memory (AttributeExists kind) P h = h
unless_memory TooLarge P h = h
unless_memory TooSmall P h = h
unless_memory IntegrityFailed P h = h
unless_memory OutOfMemory P h = tt

by_refusal : (o : Option StunWriteError) (e : StunWriteError)
    (outcome : Result (List ℕ) StunWriteError)
    → ((reason : StunWriteError) → o ≡ Some reason → Err reason ≡ outcome)
    → RefusedBy o (Err e) → UnlessMemory {V = Written} (Err e) (Err e ≡ outcome) (Unit {0})
by_refusal None e outcome told is =
    subst (λ x. UnlessMemory {V = Written} (Err x) (Err x ≡ outcome) (Unit {0})) (sym is) tt
by_refusal (Some reason) e outcome told is =
    unless_memory e (Err e ≡ outcome) (let same : e ≡ reason = cc in ap Err same ∙ told reason refl)

-- ---- a message that is written anew

-- some of its visible attributes are written, none of these was refused, and the others are left
pub record IsWritingAnew (message : List ℕ) (left : List Member) (bytes : List ℕ) : Type 0 where
  pub written : List TypedValue
  pub bytes_are : bytes ≡ spelled_anew message written
  pub divided : attributes_of (visible message) ≡ written ++ attributes_of left
  pub allowed : (k : ℕ) → k < length written
      → refusal_at message (attributes_of (visible message)) k ≡ None

pub begins_anew : (message : List ℕ) (members : List Member) (bytes : List ℕ)
    → bytes ≡ spelled_anew message [] → members ≡ visible message
    → IsWritingAnew message members bytes
begins_anew message members bytes is all = record {
  written = [];
  bytes_are = is;
  divided = ap attributes_of (sym all);
  allowed = λ k below. absurd (let no : k < 0 = below in omega arith);
}

module _ (message : List ℕ) (place : ℕ) (a : TypedValue) (left : List Member) (bytes : List ℕ)
    (so_far : IsWritingAnew message ((place, a) ∷ left) bytes) where
  abbrev all : List TypedValue
  all = attributes_of (visible message)

  abbrev n : ℕ
  n = length so_far.written

  reason_now : refusal_at message all n ≡ refusal_after bytes a
  reason_now =
      ap (λ l. refusal_at message l n) so_far.divided
      ∙ ap (λ l.
      option_and_then (refusal_after (spelled_anew message l))
      (slice_get (so_far.written ++ a ∷ attributes_of left) n))
      (take-append_seam so_far.written (a ∷ attributes_of left))
      ∙ ap (option_and_then (refusal_after (spelled_anew message so_far.written)))
      (get_seam so_far.written (attributes_of left) a)
      ∙ ap (λ b. refusal_after b a) (sym so_far.bytes_are)

  allowed_then : refusal_after bytes a ≡ None → (k : ℕ) → k < n + 1
      → refusal_at message all k ≡ None
  allowed_then none =
      below_more (λ k. refusal_at message all k ≡ None) n so_far.allowed (reason_now ∙ none)

  -- one attribute more is written
  pub goes_on_anew : (new : List ℕ) → refusal_after bytes a ≡ None → SpellsOneMore bytes new a
      → IsWritingAnew message left new
  goes_on_anew new none more = record {
    written = so_far.written ++ a ∷ [];
    bytes_are =
        more (type_field message) (transaction_id_field message) so_far.written so_far.bytes_are;
    divided = so_far.divided ∙ sym (append_assoc so_far.written (a ∷ []) (attributes_of left));
    allowed = λ k below.
        let longer = length-append so_far.written (a ∷ []) in
        allowed_then none k
        (let bound : k < length (so_far.written ++ a ∷ []) = below in omega arith);
  }

  -- an attribute is refused
  first_is : (reason : StunWriteError) → refusal_after bytes a ≡ Some reason
      → Err reason ≡ written_anew message
  unfolding written_anew
  first_is reason is =
      let longer = ap length so_far.divided
      ∙ length-append so_far.written (a ∷ attributes_of left) in
      ap (λ o. message_unless o (spelled_anew message all))
      (sym (first_among (refusal_at message all) 0 (length all) n reason
      (λ k below. ap (refusal_at message all) (from_first k) ∙ so_far.allowed k below) (omega arith)
      (ap (refusal_at message all) (from_first n) ∙ reason_now ∙ is)))

  pub refused_anew : (e : StunWriteError) → RefusedBy (refusal_after bytes a) (Err e)
      → UnlessMemory {V = Written} (Err e) (Err e ≡ written_anew message) (Unit {0})
  refused_anew e refused =
      by_refusal (refusal_after bytes a) e (written_anew message) first_is refused

-- all are written
pub ends_anew : (message bytes : List ℕ) → IsWritingAnew message [] bytes
    → Ok bytes ≡ written_anew message
unfolding written_anew
ends_anew message bytes so_far =
    let all = attributes_of (visible message) in
    let whole : all ≡ so_far.written = so_far.divided ∙ append-nil so_far.written in
    let long : length all ≡ length so_far.written = ap length whole in
    let none : filter_map (refusal_at message all) (range_with_len 0 (length all)) ≡ [] =
    none_among (refusal_at message all) 0 (length all)
    (λ k below. ap (refusal_at message all) (from_first k) ∙ so_far.allowed k (omega arith)) in
    ap Ok (so_far.bytes_are ∙ ap (spelled_anew message) (sym whole))
    ∙ ap (λ l. message_unless (slice_get l 0) (spelled_anew message all)) (sym none)

-- what follows either way from two facts about a signing
pub either_signed : (signed : Result Written StunWriteError) {P Q P' Q' R : Type 0} → (P → P' → R)
    → (Q → Q' → R)
    → UnlessMemory signed P Q → UnlessMemory signed P' Q' → R
either_signed (Ok writer) one other a b = one a b
either_signed (Err NotAllowed) one other a b = one a b
either_signed (Err MessageIntegrityExists) one other a b = one a b
either_signed (Err (AttributeExists kind)) one other a b = one a b
either_signed (Err TooLarge) one other a b = one a b
either_signed (Err TooSmall) one other a b = one a b
either_signed (Err IntegrityFailed) one other a b = one a b
either_signed (Err OutOfMemory) one other a b = other a b

-- the reply to bytes that are a message
pub told_signing : (s : Sight) (bytes : List ℕ) (signed : Result Page StunWriteError)
    → refusal bytes ≡ None → signed ≡ signing s bytes
    → reply_of_signing signed ≡ reply_unless (refusal bytes) (reply_of_signing (signing s bytes))
told_signing s bytes signed is_message is =
    ap reply_of_signing is
    ∙ ap (λ (o : Option StunParseError). reply_unless o (reply_of_signing (signing s bytes)))
    (sym is_message)

-- signing changes places alone
after_signing-places : (s : ServerSeen) (to : SocketAddr) (response : Bool)
    → after_signing s to response ≡ record s { places = (after_signing s to response).places }
after_signing-places s to true = refl
after_signing-places s to false = refl

-- the server that is left
left_signed : (s new : ServerSeen) (to : SocketAddr) (response : Bool)
    (outcome : Result Page StunWriteError) (signed : Result Written StunWriteError)
    → signed_page signed ≡ outcome → OnOk signed (new ≡ after_signing s to response)
    → OnErr signed (new ≡ s)
    → new ≡ record s { places = if_signed outcome s.places (after_signing s to response).places }
left_signed s new to response outcome (Ok writer) told ok err =
    ok ∙ after_signing-places s to response
    ∙ ap (λ (r : Result Page StunWriteError).
    record s { places = if_signed r s.places (after_signing s to response).places }) told
left_signed s new to response outcome (Err reason) told ok err =
    err ∙ ap
    (λ (r : Result Page StunWriteError).
    record s { places = if_signed r s.places (after_signing s to response).places }) told

pub left_by_bytes : (s new : ServerSeen) (to : SocketAddr) (response : Bool) (bytes : List ℕ)
    (outcome : Result Page StunWriteError) (signed : Result Written StunWriteError)
    → refusal bytes ≡ None → signed_page signed ≡ outcome
    → OnOk signed (new ≡ after_signing s to response) → OnErr signed (new ≡ s)
    → new ≡ record s {
      places =
          places_unless (refusal bytes) s.places
          (if_signed outcome s.places (after_signing s to response).places);
    }
left_by_bytes s new to response bytes outcome signed is_message told ok err =
    left_signed s new to response outcome signed told ok err
    ∙ ap (λ (o : Option StunParseError).
    record s {
      places =
          places_unless o s.places
          (if_signed outcome s.places (after_signing s to response).places);
    }) (sym is_message)
