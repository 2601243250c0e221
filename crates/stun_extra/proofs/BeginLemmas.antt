-- A header may begin with bytes if a blank header has the rest: each field tells by itself.
use Rattle.std.proofs.Common.{◌≡◌, ℕ, zero, suc, ◌+◌, ◌-◌, ◌%◌, ◌≤◌, ◌<◌, ◌^◌, Bool, true, false}
use Rattle.std.proofs.Common.{List, [], ◌∷◌, ◌++◌, length, take, drop, refl, sym, ◌∙◌}
use Rattle.std.proofs.Common.{ap, arith, rules, length-append, length-drop}
use Rattle.std.specs.Prelude.{nat_lt, slice_index, IsTrue, ◌&&◌, ◌↔◌}
use Rattle.std.proofs.lemmas.Bool.Decides.{nat_tests}
use Rattle.std.proofs.lemmas.List.{length-take-le, take-append-drop}
use Rattle.stun_base.specs.Header.{BeginsWithHeader, MAGIC_COOKIE, cookie_field, is_stun}
use Rattle.stun_base.specs.Header.{length_field, type_field}
use Rattle.stun_types.specs.Message.{IsMessage}
use Rattle.stun_types.proofs.GrammarLemmas.{AreBytes, AreBytes-drop}
use Rattle.stun_types.proofs.HeaderLemmas.{HasFields, fields_of, is_stun-fields}
use Rattle.stun_extra.specs.Framing.{BLANK_HEADER, IsPartBy, NeverBegins, frame_of, may_begin}
use Rattle.stun_extra.specs.declared.framing.Frame.TheVariants.{NotStun}
use Rattle.stun_extra.proofs.FramingLemmas.{frame-begun, frame-long_part, frame-refused}
use Rattle.stun_extra.proofs.FramingLemmas.{frame-short_part}

-- the type: its high byte has the two bits
type-blank : (bytes more : List ℕ) → type_field (bytes ++ more) < 2 ^ 14
    → type_field (bytes ++ drop (length bytes) BLANK_HEADER) < 2 ^ 14
type-blank [] more fits = omega arith
type-blank (a ∷ []) more fits = omega (arith, fits)
type-blank (a ∷ (b ∷ bytes)) more fits = fits

-- the length: its low byte has the two bits
length-blank : (bytes more : List ℕ) → length_field (bytes ++ more) % 4 ≡ 0
    → length_field (bytes ++ drop (length bytes) BLANK_HEADER) % 4 ≡ 0
length-blank [] more fits = omega arith
length-blank (a ∷ []) more fits = omega arith
length-blank (a ∷ (b ∷ [])) more fits = omega arith
length-blank (a ∷ (b ∷ (c ∷ []))) more fits = omega arith
length-blank (a ∷ (b ∷ (c ∷ (d ∷ bytes)))) more fits = fits

-- the cookie: each byte that is there is its own
cookie-blank : (bytes more : List ℕ) → AreBytes more
    → cookie_field (bytes ++ more) ≡ MAGIC_COOKIE
    → cookie_field (bytes ++ drop (length bytes) BLANK_HEADER) ≡ MAGIC_COOKIE
cookie-blank [] more are fits = omega arith
cookie-blank (a ∷ []) more are fits = omega arith
cookie-blank (a ∷ (b ∷ [])) more are fits = omega arith
cookie-blank (a ∷ (b ∷ (c ∷ []))) more are fits = omega arith
cookie-blank (a ∷ (b ∷ (c ∷ (d ∷ [])))) more are fits = omega arith
cookie-blank (a ∷ (b ∷ (c ∷ (d ∷ (e ∷ []))))) more are fits =
    omega (arith, fits, are.each 0, are.each 1, are.each 2)
cookie-blank (a ∷ (b ∷ (c ∷ (d ∷ (e ∷ (f ∷ [])))))) more are fits =
    omega (arith, fits, are.each 0, are.each 1)
cookie-blank (a ∷ (b ∷ (c ∷ (d ∷ (e ∷ (f ∷ (g ∷ []))))))) more are fits =
    omega (arith, fits, are.each 0)
cookie-blank (a ∷ (b ∷ (c ∷ (d ∷ (e ∷ (f ∷ (g ∷ (h ∷ bytes)))))))) more are fits = fits

-- what begins a header may begin one
pub may_begin-header : (bytes more : List ℕ) → AreBytes more → IsTrue (is_stun (bytes ++ more))
    → may_begin bytes ≡ true
may_begin-header bytes more are stun =
    let fields = fields_of (bytes ++ more) stun in
    is_stun-fields (bytes ++ drop (length bytes) BLANK_HEADER)
    (record {
      top_bits = type-blank bytes more fields.top_bits;
      cookie = cookie-blank bytes more are fields.cookie;
      aligned = length-blank bytes more fields.aligned;
    })

-- a blank header is of bytes
small : List ℕ → Bool
small [] = true
small (x ∷ xs) = nat_lt x 256 && small xs

both : (a b : Bool) → (a && b) ≡ true → (a ≡ true) × (b ≡ true)
both true b holds = (refl, holds)
both false b holds = (holds, absurd (search (rules, holds)))

small-each : (xs : List ℕ) → small xs ≡ true → (i : ℕ) → slice_index xs i < 2 ^ 8
unfolding small
small-each [] holds i = omega arith
small-each (x ∷ xs) holds zero =
    let one = both (nat_lt x 256) (small xs) holds in grind (arith, nat_tests, one.0)
small-each (x ∷ xs) holds (suc i) =
    let others = both (nat_lt x 256) (small xs) holds in small-each xs others.1 i

blank-bytes : AreBytes BLANK_HEADER
unfolding small
blank-bytes = record { each = small-each BLANK_HEADER refl }

-- a header begins so, with a blank one behind the bytes
blank-header : (bytes : List ℕ) → may_begin bytes ≡ true
    → BeginsWithHeader (bytes ++ drop (length bytes) BLANK_HEADER)
blank-header bytes may =
    let count = length-append bytes (drop (length bytes) BLANK_HEADER) in
    let behind : length (drop (length bytes) BLANK_HEADER) ≡ 20 - length bytes =
    length-drop (length bytes) BLANK_HEADER in
    record { is_whole = omega (arith, count, behind); fields = may }

pub blank-never : (bytes : List ℕ) → NeverBegins BeginsWithHeader bytes → may_begin bytes ≡ true → ⊥
blank-never bytes never may =
    let are = AreBytes-drop (length bytes) BLANK_HEADER blank-bytes in
    never (drop (length bytes) BLANK_HEADER) are.each (blank-header bytes may)

-- bytes are refused exactly where no header begins with them
pub frame-never : (bytes : List ℕ)
    → (frame_of bytes ≡ NotStun) ↔ NeverBegins BeginsWithHeader bytes
frame-never bytes = (
  λ refused more each begins.
      frame-begun bytes (may_begin-header bytes more (record { each = each }) begins.fields)
      refused,
  λ never. by (may_begin bytes) refl never,
)
  where
    by : (may : Bool) → may_begin bytes ≡ may → NeverBegins BeginsWithHeader bytes
        → frame_of bytes ≡ NotStun
    by true is never = absurd (blank-never bytes never is)
    by false is never = frame-refused bytes is

-- a part of a message needs more
pub frame-part : (message : List ℕ) (n : ℕ) → IsMessage message
    → ((i : ℕ) → slice_index message i < 2 ^ 8) → n < length message
    → IsPartBy frame_of message n
frame-part message n is_message each below = by (nat_lt n 20) refl
  where
    part : List ℕ
    part = take n message

    count : length part ≡ n
    count = length-take-le n message (omega (arith, below))

    whole : take n message ++ drop n message ≡ message
    whole = take-append-drop n message

    stun : IsTrue (is_stun (take n message ++ drop n message))
    stun = ap is_stun whole ∙ is_message.header.fields

    by : (short : Bool) → nat_lt n 20 ≡ short → IsPartBy frame_of message n
    by true short =
        let few : n < 20 = grind (arith, nat_tests, short) in
        let may =
        may_begin-header part (drop n message) (AreBytes-drop n message (record { each = each }))
        stun in
        record {
          needed = 20 - n;
          answer = frame-short_part part n count few may;
          some = omega (arith, few);
          within = omega (arith, few, is_message.header.is_whole);
        }
    by false long =
        let many : 20 ≤ n = grind (arith, nat_tests, long) in
        record {
          needed = length message - n;
          answer = frame-long_part message n is_message many below count;
          some = omega (arith, below);
          within = omega (arith, below);
        }
