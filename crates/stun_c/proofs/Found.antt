-- What a call comes to is what the library finds.
use Rattle.std.proofs.Common.{◌≡◌, ◌⊎◌, inl, inr, ◌+◌, ◌≤◌, ◌<◌, ℕ, ℤ, pos, List, [], ◌∷◌, ◌++◌}
use Rattle.std.proofs.Common.{Bool, true, false, if◌then◌else◌, nat_lt, Option, Some, None, Result}
use Rattle.std.proofs.Common.{Ok, Err, length, drop, take, map, find, refl, sym, ap, subst}
use Rattle.std.proofs.Common.{ltb-false, ltb-true}
use Rattle.std.specs.Prelude.{cond}
use Rattle.stun_base.specs.declared.wire.attribute_type.AttributeType.{AttributeType}
use Rattle.stun_base.specs.declared.wire.error.StunParseError.{StunParseError}
use Rattle.stun_types.specs.Attribute.{TypedValue}
use Rattle.stun_types.specs.Message.{refusal}
use Rattle.stun_types.specs.Visible.{visible}
use Rattle.stun_types.specs.Walk.{Member}
use Rattle.stun_types.specs.XorMappedAddress.{XoredAddress}
use Rattle.stun_extra.specs.declared.framing.Frame.{Frame}
use Rattle.stun_extra.specs.declared.framing.Frame.TheVariants.{Need, Message as Whole}
use Rattle.stun_extra.specs.declared.framing.Frame.TheVariants.{NotStun as NoFrame}
use Rattle.stun_numbers.specs.Buffers.{within_room}
use Rattle.stun_numbers.specs.Refusals.{message_refusal, refusal_of_parse}
use Rattle.stun_numbers.specs.declared.refusal.Refusal.{Refusal}
use Rattle.stun_numbers.specs.declared.refusal.Refusal.TheVariants as r
use Rattle.stun_c.specs.Answers.{Writes, unless_no_message}
use Rattle.stun_c.specs.Extra.{MOST_KNOWN, held_after, held_number, known_refusal, told_number}
use Rattle.stun_c.specs.Extra.{types_after, unknown_of, wanted_number}
use Rattle.stun_c.specs.Laws.{IsComeTo}
use Rattle.stun_c.specs.Reading.{finding_refusal}
use Rattle.stun_c.specs.Reading.{find_answer, next_member, number_after, place_number, plain_octets}
use Rattle.stun_c.specs.Reading.{plain_port_after, text_answer, text_length_after}
use Rattle.stun_c.specs.Turn.{channel_answer, set_by_data}
use Rattle.stun_c.specs.Walking.{walk_answer}
use Rattle.stun_c.proofs.CarriedLemmas.{negative, same_bytes, same_number}

-- ---- attributes

found_by : (o : Option Refusal) (f : Option Member) (part : TypedValue → ℕ) (before n : ℕ)
    → find_answer o f ≡ pos n
    → (m : Member) × (o ≡ None) × (f ≡ Some m) × (n ≡ m.0 + 4)
    × (number_after part o f before ≡ part m.1)
found_by None None part before n h = negative r.MissingAttribute n h
found_by None (Some m) part before n h = (m, refl, refl, same_number (m.0 + 4) n h, refl)
found_by (Some why) f part before n h = negative why n h

no_error : (o : Option StunParseError) → message_refusal o ≡ None → o ≡ None
no_error None h = refl
no_error (Some error) h = cc

of_kind : (b : Bool) (o : Option StunParseError)
    → (if b then message_refusal o else Some r.BadArgument) ≡ None → o ≡ None
of_kind true o h = no_error o h
of_kind false o h = cc

pub found : (bytes : List ℕ) (kind : ℕ) (f : Option Member) (part : TypedValue → ℕ)
    (before n : ℕ) → find_answer (finding_refusal kind bytes) f ≡ pos n
    → (m : Member) × (refusal bytes ≡ None) × (f ≡ Some m) × (n ≡ m.0 + 4)
    × (number_after part (finding_refusal kind bytes) f before ≡ part m.1)
found bytes kind f part before n h =
    let one = found_by (finding_refusal kind bytes) f part before n h in
    (one.0, of_kind (nat_lt kind 65536) (refusal bytes) one.1, one.2, one.3, one.4)

abbrev none_of : {E : Type 0} → Option E
none_of = None

come_to : (E : Type 0) (f : Option Member) (part : TypedValue → ℕ) (before n : ℕ)
    → place_number f ≡ pos n
    → IsComeTo f part n before (number_after part (none_of {E = E}) f before)
come_to E None part before n h = (same_number 0 n h, refl)
come_to E (Some m) part before n h = (same_number (m.0 + 4) n h, refl)

pub next : (o : Option StunParseError) (f : Option Member) (part : TypedValue → ℕ)
    (before n : ℕ) → unless_no_message o (place_number f) ≡ pos n
    → (o ≡ None) × IsComeTo f part n before (number_after part o f before)
next None f part before n h = (refl, come_to StunParseError f part before n h)
next (Some error) f part before n h = negative (refusal_of_parse error) n h

pub walked : (o : Option Refusal) (f : Option Member) (part : TypedValue → ℕ) (before n : ℕ)
    → walk_answer o f ≡ pos n
    → (o ≡ None) × IsComeTo f part n before (number_after part o f before)
walked None f part before n h = (refl, come_to Refusal f part before n h)
walked (Some why) f part before n h = negative why n h

abbrev Is : Option Member → Member → Type 0
Is o m = o ≡ Some m

same_member : (m k : Member) → Is (Some m) k → m ≡ k
same_member m k h = cc

after_place : (place : ℕ) (all : List Member) (m : Member)
    → find (λ x. nat_lt place x.0) all ≡ Some m → place < m.0
after_place place [] m h = cc
after_place place (x ∷ xs) m h = by (nat_lt place x.0) refl (after_place place xs m) h
  where
    by : (b : Bool) → nat_lt place x.0 ≡ b
        → (find (λ y. nat_lt place y.0) xs ≡ Some m → place < m.0)
        → Is (cond b (Some x) (find (λ y. nat_lt place y.0) xs)) m → place < m.0
    by true is rest h = subst (λ y. place < y.0) (same_member x m h) (ltb-true place x.0 is)
    by false is rest h = rest h

pub behind : (bytes : List ℕ) (place : ℕ) (m : Member) → next_member place bytes ≡ Some m
    → place < m.0
behind bytes place m = after_place place (visible bytes) m

-- ---- what is written

pub text_told : (x : Result (List ℕ) Refusal) (place before n : ℕ) → text_answer x place ≡ pos n
    → (text : List ℕ) × (x ≡ Ok text) × (n ≡ place + 4)
    × (text_length_after x before ≡ length text)
text_told (Ok text) place before n h = (text, refl, same_number (place + 4) n h, refl)
text_told (Err why) place before n h = negative why n h

roomy : (b : Bool) (made bytes : List ℕ)
    → (if b then Err r.BufferTooSmall else Ok made) ≡ Ok bytes → (b ≡ false) × (bytes ≡ made)
roomy true made bytes h = cc
roomy false made bytes h = (refl, same_bytes made bytes h)

port_of : (b : Bool) (address : XoredAddress) (before : ℕ) → b ≡ false
    → plain_port_after (if b then Err r.BufferTooSmall else Ok address.octets) (Ok address) before
    ≡ address.port
port_of true address before h = cc
port_of false address before h = refl

pub address : (a : Result XoredAddress Refusal) (room before : ℕ) (octets : List ℕ)
    → within_room (plain_octets a) room ≡ Ok octets
    → (address : XoredAddress) × (a ≡ Ok address) × (octets ≡ address.octets)
    × (plain_port_after (within_room (plain_octets a) room) a before ≡ address.port)
address (Ok one) room before octets h =
    let fits = roomy (nat_lt room (length one.octets)) one.octets octets h in
    (one, refl, fits.1, port_of (nat_lt room (length one.octets)) one before fits.0)
address (Err why) room before octets h = cc

pub channel : (o : Option Refusal) (n number before : ℕ) → channel_answer o ≡ pos n
    → (o ≡ None) × (n ≡ 4) × (set_by_data o number before ≡ number)
channel None n number before h = (refl, same_number 4 n h, refl)
channel (Some why) n number before h = negative why n h

pub types_told : (x : Result (List AttributeType) Refusal) (numbers : List ℕ) (n : ℕ)
    → held_number x ≡ pos n
    → (types : List AttributeType) × (rest : List ℕ) × (x ≡ Ok types) × (n ≡ length types)
    × (held_after x numbers ≡ take (length numbers) (map (λ kind. kind.0) types) ++ rest)
types_told (Ok types) numbers n h =
    (types, drop (length types) numbers, refl, same_number (length types) n h, refl)
types_told (Err why) numbers n h = negative why n h

told_by : (o : Option Refusal) (types : List AttributeType) (numbers : List ℕ) (n : ℕ)
    → told_number o types ≡ pos n
    → (rest : List ℕ) × (o ≡ None) × (n ≡ length types)
    × (types_after o types numbers
    ≡ take (length numbers) (map (λ kind. kind.0) types) ++ rest)
told_by None types numbers n h =
    (drop (length types) numbers, refl, same_number (length types) n h, refl)
told_by (Some why) types numbers n h = negative why n h

few : (b : Bool) (o : Option StunParseError)
    → (if b then Some r.BadArgument else message_refusal o) ≡ None → o ≡ None
few true o h = cc
few false o h = no_error o h

pub unknown_told : (bytes known numbers : List ℕ) (n : ℕ)
    → told_number (known_refusal bytes known) (unknown_of bytes known) ≡ pos n
    → (rest : List ℕ) × (refusal bytes ≡ None) × (n ≡ length (unknown_of bytes known))
    × (types_after (known_refusal bytes known) (unknown_of bytes known) numbers
    ≡ take (length numbers) (map (λ kind. kind.0) (unknown_of bytes known)) ++ rest)
unknown_told bytes known numbers n h =
    let one = told_by (known_refusal bytes known) (unknown_of bytes known) numbers n h in
    (one.0, few (nat_lt MOST_KNOWN (length known)) (refusal bytes) one.1, one.2, one.3)

pub frame_told : (there n : ℕ) (frame : Frame) → wanted_number there frame ≡ pos n
    → (frame ≡ Whole n) ⊎ ((more : ℕ) × (frame ≡ Need more) × (n ≡ there + more))
frame_told there n (Need more) h = inr (more, refl, same_number (there + more) n h)
frame_told there n (Whole size) h = inl (ap Whole (sym (same_number size n h)))
frame_told there n NoFrame h = negative r.NotStun n h

abbrev IsResult : Result (List ℕ) Refusal → List ℕ → Type 0
IsResult made bytes = made ≡ Ok bytes

by_room : (b : Bool) (bytes before after : List ℕ) (result : ℤ)
    → nat_lt (length before) (length bytes) ≡ b
    → Writes (if b then Err r.BufferTooSmall else Ok bytes) before result after
    → ((one : List ℕ) × (rest : List ℕ) × IsResult (Ok bytes) one
    × (length one ≤ length before) × (result ≡ pos (length one)) × (after ≡ one ++ rest))
    ⊎ (after ≡ before)
by_room true bytes before after result is call = inr call.written
by_room false bytes before after result is call =
    inl (
      bytes,
      drop (length bytes) before,
      refl,
      ltb-false (length before) (length bytes) is,
      call.answer,
      call.written,
    )

pub room : (made : Result (List ℕ) Refusal) (before after : List ℕ) (result : ℤ)
    → Writes (within_room made (length before)) before result after
    → ((bytes : List ℕ) × (rest : List ℕ) × (made ≡ Ok bytes)
    × (length bytes ≤ length before) × (result ≡ pos (length bytes)) × (after ≡ bytes ++ rest))
    ⊎ (after ≡ before)
room (Ok bytes) before after result call =
    by_room (nat_lt (length before) (length bytes)) bytes before after result refl call
room (Err why) before after result call = inr call.written
