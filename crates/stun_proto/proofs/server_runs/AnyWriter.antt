-- A message that is signed in any writer is signed as in one that grows to the longest message,
-- unless the writer has too little room.
use Rattle.std.proofs.Common.{◌≡◌, ◌≢◌, ◌⊎◌, inl, inr, ℕ, ◌+◌, ◌-◌, ◌≤◌, Bool, true, false, cond}
use Rattle.std.proofs.Common.{List, [], ◌∷◌, length, Option, Some, None, refl, sym, subst, ap, ◌∙◌}
use Rattle.std.proofs.Common.{Result, Ok, Err, arith}
use Rattle.std.proofs.Common.{◌++◌, length-append}
use Rattle.std.proofs.lemmas.List.{length-replicate}
use Rattle.std.proofs.lemmas.Bool.{le-ltb, ltb-false}
use Rattle.std.specs.Prelude.{nat_lt}
use Rattle.stun_base.specs.Algorithm.{digest_length}
use Rattle.stun_base.specs.declared.keys.algorithm.IntegrityAlgorithm.{IntegrityAlgorithm}
use Rattle.stun_base.specs.declared.wire.error.StunWriteError.{StunWriteError}
use Rattle.stun_base.specs.declared.wire.error.StunWriteError.TheVariants.{NotAllowed}
use Rattle.stun_base.specs.declared.wire.error.StunWriteError.TheVariants.{MessageIntegrityExists}
use Rattle.stun_base.specs.declared.wire.error.StunWriteError.TheVariants.{AttributeExists}
use Rattle.stun_base.specs.declared.wire.error.StunWriteError.TheVariants.{TooLarge, TooSmall}
use Rattle.stun_base.specs.declared.wire.error.StunWriteError.TheVariants.{IntegrityFailed}
use Rattle.stun_types.specs.Attribute.{TypedValue, attribute_length}
use Rattle.stun_types.specs.Grammar.{spelled_attribute}
use Rattle.stun_types.specs.Message.{with_length}
use Rattle.stun_types.specs.Visible.{has_kind}
use Rattle.stun_types.specs.Walk.{walk}
use Rattle.stun_types.specs.Writing.{attribute_refusal, has_integrity, is_set_apart, length_with}
use Rattle.stun_types.specs.Writing.{signing_refusal, size_refusal}
use Rattle.stun_judging.specs.Additions.{Addition, Page, added_all, added_one, addition_refusal}
use Rattle.stun_judging.specs.Additions.{after, attribute, growth_of, integrity, is_text_too_long}
use Rattle.stun_judging.specs.Additions.{page_of, page_unless_refused, with_addition}
use Rattle.stun_judging.specs.Registered.{Registered, key_at}
use Rattle.stun_judging.specs.Verdict.{ClientSeen}
use Rattle.stun_auth.specs.Seen.{PlaceSeen}
use Rattle.stun_auth.specs.Server.{Sight}
use Rattle.stun_auth.specs.ServerSigning.{attributes_for, protected_for, server_signed, signed_at}
use Rattle.stun_auth.specs.ServerSigning.{signed_under_key}
use Rattle.stun_auth.specs.Validation.{ServerSeen}
use Rattle.stun_judging.proofs.Growth.{length-with_addition}
use Rattle.stun_proto.specs.ServerLoop.{IsSignedInSome, signed_or_refused}

-- ---- refusals
-- the same refusal, or none in both, unless there is too little room
abbrev AreSame : Option StunWriteError → Option StunWriteError → Type 0
AreSame in_some in_vector = (in_some ≡ Some TooSmall) ⊎ (in_some ≡ in_vector)

unless : (b : Bool) (reason : StunWriteError) (o p : Option StunWriteError) → AreSame o p
    → AreSame (cond b (Some reason) o) (cond b (Some reason) p)
unless true reason o p same = inr refl
unless false reason o p same = same

room_left : (message n : ℕ) → 20 ≤ message → (message - 20) + n ≤ 65532 → n ≤ 65552 - message
room_left message n long fits = omega (arith, long, fits)

by_size : (message : List ℕ) (room n : ℕ) → 20 ≤ length message
    → AreSame (size_refusal message room n) (size_refusal message (65552 - length message) n)
by_size message room n long =
    by (nat_lt 65532 (length_with message n)) refl (nat_lt room (attribute_length n))
  where
    enough : nat_lt 65532 (length_with message n) ≡ false
        → nat_lt (65552 - length message) (attribute_length n) ≡ false
    enough is =
        le-ltb (65552 - length message) (attribute_length n)
        (room_left (length message) (attribute_length n) long
        (ltb-false 65532 (length_with message n) is))

    by : (b : Bool) → nat_lt 65532 (length_with message n) ≡ b → (c : Bool)
        → AreSame (cond b (Some TooLarge) (cond c (Some TooSmall) None))
        (cond b (Some TooLarge)
        (cond (nat_lt (65552 - length message) (attribute_length n)) (Some TooSmall) None))
    by true is c = inr refl
    by false is true = inl refl
    by false is false = inr (sym (ap (λ d. cond d (Some TooSmall) None) (enough is)))

by_attribute : (message : List ℕ) (room kind n : ℕ) → 20 ≤ length message
    → AreSame (attribute_refusal message room kind n)
    (attribute_refusal message (65552 - length message) kind n)
by_attribute message room kind n long =
    unless (is_set_apart kind) NotAllowed _ _
    (unless (has_integrity message) MessageIntegrityExists _ _
    (unless (has_kind kind (walk message)) (AttributeExists (record { 0 = kind })) _ _
    (by_size message room n long)))

by_addition : (x : Addition) (message : List ℕ) (room : ℕ) → 20 ≤ length message
    → AreSame (addition_refusal x (record { bytes = message; room = room }))
    (addition_refusal x (page_of message))
by_addition (attribute a) message room long =
    unless (is_text_too_long a) TooLarge _ _
    (by_attribute message room a.kind (length a.value) long)
by_addition (integrity algorithm key) message room long =
    unless (has_integrity message) MessageIntegrityExists _ _
    (by_size message room (digest_length algorithm) long)

-- ---- pages
-- the same bytes or the same refusal, unless there is too little room
pub data AreAlike : Result Page StunWriteError → Result Page StunWriteError → Type 0 where
  written : (bytes : List ℕ) (room : ℕ) → 20 ≤ length bytes
      → AreAlike (Ok (record { bytes = bytes; room = room })) (Ok (page_of bytes))
  refused : (reason : StunWriteError) → AreAlike (Err reason) (Err reason)
  too_small : (other : Result Page StunWriteError) → AreAlike (Err TooSmall) other

one : (x : Addition) (message : List ℕ) (room : ℕ) → 20 ≤ length message
    → AreAlike (added_one x (record { bytes = message; room = room })) (added_one x (page_of message))
unfolding added_one
one x message room long =
    by (addition_refusal x (record { bytes = message; room = room }))
    (addition_refusal x (page_of message)) (by_addition x message room long)
  where
    grown : List ℕ
    grown = with_addition x message

    longer : length grown ≡ length message + growth_of x
    longer = length-with_addition x message long

    left : Page
    left = record { bytes = grown; room = (65552 - length message) - growth_of x }

    left_is : left ≡ page_of grown
    left_is =
        ap (λ (n : ℕ). record { bytes = grown; room = n })
        (let e = longer in omega (arith, e))

    by : (o p : Option StunWriteError) → AreSame o p
        → AreAlike
        (page_unless_refused o (record { bytes = grown; room = room - growth_of x }))
        (page_unless_refused p left)
    by o p (inl same) =
        subst (λ q. AreAlike
        (page_unless_refused q (record { bytes = grown; room = room - growth_of x }))
        (page_unless_refused p left)) (sym same) (too_small _)
    by None p (inr same) =
        subst (λ q. AreAlike (Ok (record { bytes = grown; room = room - growth_of x }))
        (page_unless_refused q left)) same
        (subst (λ (page : Page). AreAlike
        (Ok (record { bytes = grown; room = room - growth_of x })) (Ok page)) (sym left_is)
        (written grown (room - growth_of x) (let e = longer in omega (arith, e, long))))
    by (Some reason) p (inr same) =
        subst (λ q. AreAlike (Err reason) (page_unless_refused q left)) same (refused reason)

-- a next step
then : (next : Page → Result Page StunWriteError)
    → ((bytes : List ℕ) (room : ℕ) → 20 ≤ length bytes
    → AreAlike (next (record { bytes = bytes; room = room })) (next (page_of bytes)))
    → (x y : Result Page StunWriteError) → AreAlike x y → AreAlike (after x next) (after y next)
then next step x y (written bytes room long) = step bytes room long
then next step x y (refused reason) = refused reason
then next step x y (too_small other) = too_small _

all : (list : List Addition) (message : List ℕ) (room : ℕ) → 20 ≤ length message
    → AreAlike (added_all list (record { bytes = message; room = room }))
    (added_all list (page_of message))
all [] message room long = written message room long
all (x ∷ list) message room long =
    then (added_all list) (all list) _ _ (one x message room long)

-- ---- a server
under_key : (a : IntegrityAlgorithm) (key : Option (List ℕ)) (message : List ℕ) (room : ℕ) → 20 ≤ length message
    → AreAlike (signed_under_key a key (record { bytes = message; room = room }))
    (signed_under_key a key (page_of message))
under_key a None message room long = refused IntegrityFailed
under_key a (Some key) message room long = all (integrity a key ∷ []) message room long

protected : (users : Registered) (client : Option ClientSeen) (message : List ℕ) (room : ℕ)
    → 20 ≤ length message
    → AreAlike (protected_for users client (record { bytes = message; room = room }))
    (protected_for users client (page_of message))
protected users None message room long = written message room long
protected users (Some c) message room long =
    under_key c.algorithm (key_at users c.name c.algorithm) message room long

at_place : (response : Bool) (users : Registered) (place : Option PlaceSeen) (message : List ℕ)
    (room : ℕ) → 20 ≤ length message
    → AreAlike (signed_at response users place (record { bytes = message; room = room }))
    (signed_at response users place (page_of message))
at_place response users None message room long = written message room long
at_place response users (Some p) message room long =
    then (protected_for users p.client) (protected users p.client) _ _
    (all (attributes_for response users p.nonce p.client) message room long)

-- what a server signs, in any writer
signs_alike : (s : Sight) (response : Bool) (message : List ℕ) (room : ℕ) → 20 ≤ length message
    → AreAlike (server_signed s response (record { bytes = message; room = room }))
    (server_signed s response (page_of message))
signs_alike s response message room long =
    at_place response s.registered s.place message room long

alike_told : (s after : ServerSeen) (x y : Result Page StunWriteError) → AreAlike x y
    → x ≢ Err TooSmall → signed_or_refused s after x ≡ signed_or_refused s after y
alike_told s after x y (written bytes room long) not_small = refl
alike_told s after x y (refused reason) not_small = refl
alike_told s after x y (too_small other) not_small = absurd (not_small refl)

-- the reply and the server are those of a writer that grows
pub signed_as_in_vector : (seen : Sight) (s after : ServerSeen) (response : Bool)
    (message : List ℕ) (signed : Result Page StunWriteError) → 20 ≤ length message
    → IsSignedInSome seen response message signed
    → signed_or_refused s after signed
    ≡ signed_or_refused s after (server_signed seen response (page_of message))
signed_as_in_vector seen s after response message signed long (room, is, not_small) =
    ap (signed_or_refused s after) is
    ∙ alike_told s after _ _ (signs_alike seen response message room long)
    (λ small. not_small (is ∙ small))
