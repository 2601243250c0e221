-- Messages in a stream: the header of a message is the same whatever follows it.
use Rattle.std.proofs.Common.{◌≡◌, ℕ, ◌+◌, ◌-◌, ◌%◌, ◌≤◌, ◌<◌, ◌^◌, Bool, true, false}
use Rattle.std.proofs.Common.{cond, List, ◌++◌, length, take, drop, refl, sym, ◌∙◌}
use Rattle.std.proofs.Common.{ap, arith, length-append, length-drop}
use Rattle.std.specs.Prelude.{nat_lt, ◌==◌, ◌&&◌}
use Rattle.std.proofs.lemmas.Bool.Decides.{nat_tests}
use Rattle.std.proofs.lemmas.List.{drop-append-le, take-append-drop}
use Rattle.byteorder.specs.Endian.{big_number}
use Rattle.byteorder.specs.Numbers.{big_from-append}
use Rattle.stun_base.specs.Header.{cookie_field, is_stun, length_field, type_field}
use Rattle.stun_types.specs.Message.{IsMessage}
use Rattle.stun_extra.specs.Framing.{BLANK_HEADER, frame_of, frame_to, may_begin}
use Rattle.stun_extra.specs.declared.framing.Frame.{Frame}
use Rattle.stun_extra.specs.declared.framing.Frame.TheVariants.{Need, Message, NotStun}
use Rattle.stun_extra.proofs.CuttingLemmas.{IsSteady}

is_lt : (a b : ℕ) → a < b → nat_lt a b ≡ true
is_lt a b below = grind (arith, nat_tests)

is_not_lt : (a b : ℕ) → b ≤ a → nat_lt a b ≡ false
is_not_lt a b above = grind (arith, nat_tests)

-- a header, and what follows it
pub record SameHeader (front behind : List ℕ) : Type 0 where
  pub stun : is_stun (front ++ behind) ≡ is_stun front
  pub length_is : length_field (front ++ behind) ≡ length_field front

pub same_header : (front behind : List ℕ) → 20 ≤ length front → SameHeader front behind
same_header front behind long =
    let kind : type_field (front ++ behind) ≡ type_field front =
    big_from-append 2 front behind (omega (arith, long)) in
    let count : length_field (front ++ behind) ≡ length_field front =
    ap (big_number 2) (drop-append-le 2 front behind (omega (arith, long)))
    ∙ big_from-append 2 (drop 2 front) behind (omega (arith, long, length-drop 2 front)) in
    let cookie : cookie_field (front ++ behind) ≡ cookie_field front =
    ap (big_number 4) (drop-append-le 4 front behind (omega (arith, long)))
    ∙ big_from-append 4 (drop 4 front) behind (omega (arith, long, length-drop 4 front)) in
    record {
      stun = λ i. nat_lt (kind i) 16384 && (cookie i == 0x2112A442) && (count i % 4 == 0);
      length_is = count;
    }

-- with a whole header its fields decide
frame-header : (bytes : List ℕ) → 20 ≤ length bytes
    → frame_of bytes
    ≡ cond (is_stun bytes) (frame_to (length bytes) (20 + length_field bytes)) NotStun
frame-header bytes long =
    ap (λ b.
    cond b (cond (may_begin bytes) (Need (20 - length bytes)) NotStun)
    (cond (is_stun bytes) (frame_to (length bytes) (20 + length_field bytes)) NotStun))
    (is_not_lt (length bytes) 20 long)

-- with a part of it, whether one may begin so
frame-short : (bytes : List ℕ) → length bytes < 20
    → frame_of bytes ≡ cond (may_begin bytes) (Need (20 - length bytes)) NotStun
frame-short bytes short =
    ap (λ b.
    cond b (cond (may_begin bytes) (Need (20 - length bytes)) NotStun)
    (cond (is_stun bytes) (frame_to (length bytes) (20 + length_field bytes)) NotStun))
    (is_lt (length bytes) 20 short)

-- a whole header may begin so if it is one
may_begin-long : (bytes : List ℕ) → 20 ≤ length bytes → may_begin bytes ≡ is_stun bytes
may_begin-long bytes long =
    let header = same_header bytes (drop (length bytes) BLANK_HEADER) long in header.stun

frame_to-stun : (there whole : ℕ) → frame_to there whole ≡ NotStun → ⊥
frame_to-stun there whole refused = by (nat_lt there whole) refused
  where
    by : (part : Bool) → cond part (Need (whole - there)) (Message whole) ≡ NotStun → ⊥
    by true refused = cc
    by false refused = cc

-- bytes with which a header may begin are not refused
pub frame-begun : (bytes : List ℕ) → may_begin bytes ≡ true → frame_of bytes ≡ NotStun → ⊥
frame-begun bytes may refused = by (nat_lt (length bytes) 20) refl
  where
    by : (short : Bool) → nat_lt (length bytes) 20 ≡ short → ⊥
    by true is =
        let few : length bytes < 20 = grind (arith, nat_tests, is) in
        let answer : Need (20 - length bytes) ≡ NotStun =
        sym (frame-short bytes few
        ∙ ap (λ b. cond b (Need (20 - length bytes)) NotStun) may) ∙ refused in
        cc
    by false is =
        let many : 20 ≤ length bytes = grind (arith, nat_tests, is) in
        let whole = 20 + length_field bytes in
        frame_to-stun (length bytes) whole
        (sym (frame-header bytes many
        ∙ ap (λ b. cond b (frame_to (length bytes) whole) NotStun)
        (sym (may_begin-long bytes many) ∙ may)) ∙ refused)

-- others are
pub frame-refused : (bytes : List ℕ) → may_begin bytes ≡ false → frame_of bytes ≡ NotStun
frame-refused bytes may = by (nat_lt (length bytes) 20) refl
  where
    by : (short : Bool) → nat_lt (length bytes) 20 ≡ short → frame_of bytes ≡ NotStun
    by true is =
        let few : length bytes < 20 = grind (arith, nat_tests, is) in
        frame-short bytes few ∙ ap (λ b. cond b (Need (20 - length bytes)) NotStun) may
    by false is =
        let many : 20 ≤ length bytes = grind (arith, nat_tests, is) in
        frame-header bytes many
        ∙ ap (λ b. cond b (frame_to (length bytes) (20 + length_field bytes)) NotStun)
        (sym (may_begin-long bytes many) ∙ may)

-- what a whole message is known by
pub record IsFramed (bytes : List ℕ) (n : ℕ) : Type 0 where
  pub least : 20 ≤ n
  pub within : n ≤ length bytes
  pub stun : is_stun bytes ≡ true
  pub stated : 20 + length_field bytes ≡ n

frame-framed : (bytes : List ℕ) (n : ℕ) → IsFramed bytes n → frame_of bytes ≡ Message n
frame-framed bytes n framed =
    frame-header bytes (omega (arith, framed.least, framed.within))
    ∙ ((λ i. cond (framed.stun i) (frame_to (length bytes) (framed.stated i)) NotStun)
    ∙ ap (λ b. cond b (Need (n - length bytes)) (Message n))
    (is_not_lt (length bytes) n framed.within))

framed : (bytes : List ℕ) (n : ℕ) → frame_of bytes ≡ Message n → IsFramed bytes n
framed bytes n answer =
    by (nat_lt (length bytes) 20) (may_begin bytes) (is_stun bytes)
    (nat_lt (length bytes) (20 + length_field bytes)) refl refl refl answer
  where
    by : (short may stun part : Bool) → nat_lt (length bytes) 20 ≡ short → is_stun bytes ≡ stun
        → nat_lt (length bytes) (20 + length_field bytes) ≡ part
        → cond short (cond may (Need (20 - length bytes)) NotStun)
        (cond stun
        (cond part (Need (20 + length_field bytes - length bytes))
        (Message (20 + length_field bytes))) NotStun) ≡ Message n
        → IsFramed bytes n
    by true true stun part a b c answer = cc
    by true false stun part a b c answer = cc
    by false may false part a b c answer = cc
    by false may true true a b c answer = cc
    by false may true false a b c answer =
        let stated : 20 + length_field bytes ≡ n = cc in
        let enough : 20 + length_field bytes ≤ length bytes = grind (arith, nat_tests, c) in
        record {
          least = omega (arith, stated);
          within = omega (arith, stated, enough);
          stun = b;
          stated = stated;
        }

-- a whole message is whole whatever follows
framed-more : (bytes more : List ℕ) (n : ℕ) → IsFramed bytes n → IsFramed (bytes ++ more) n
framed-more bytes more n framed =
    let header = same_header bytes more (omega (arith, framed.least, framed.within)) in
    record {
      least = framed.least;
      within = omega (arith, framed.within, length-append bytes more);
      stun = header.stun ∙ framed.stun;
      stated = ap (λ k. 20 + k) header.length_is ∙ framed.stated;
    }

message-framed : (message : List ℕ) → IsMessage message → IsFramed message (length message)
message-framed message is_message = record {
  least = is_message.header.is_whole;
  within = omega arith;
  stun = is_message.header.fields;
  stated = is_message.stated;
}

pub frame-message : (message rest : List ℕ) → IsMessage message
    → frame_of (message ++ rest) ≡ Message (length message)
frame-message message rest is_message =
    frame-framed (message ++ rest) (length message)
    (framed-more message rest (length message) (message-framed message is_message))

pub frame-steady : IsSteady frame_of
frame-steady = record {
  some =
      λ bytes n answer. let known = framed bytes n answer in omega (arith, known.least);
  within = λ bytes n answer. let known = framed bytes n answer in known.within;
  stays =
      λ bytes more n answer.
      frame-framed (bytes ++ more) n (framed-more bytes more n (framed bytes n answer));
}

-- a part of a message that has its header
pub frame-long_part : (message : List ℕ) (n : ℕ) → IsMessage message → 20 ≤ n
    → n < length message → length (take n message) ≡ n
    → frame_of (take n message) ≡ Need (length message - n)
frame-long_part message n is_message many below count =
    let part = take n message in
    let header = same_header part (drop n message) (omega (arith, count, many)) in
    let whole = take-append-drop n message in
    let stun : is_stun part ≡ true = sym header.stun
    ∙ (ap is_stun whole ∙ is_message.header.fields) in
    let stated : 20 + length_field part ≡ length message =
    ap (λ k. 20 + k) (sym header.length_is ∙ ap length_field whole) ∙ is_message.stated in
    frame-header part (omega (arith, count, many))
    ∙ ((λ i. cond (stun i) (frame_to (count i) (stated i)) NotStun)
    ∙ ap (λ b. cond b (Need (length message - n)) (Message (length message)))
    (is_lt n (length message) below))

-- and one that has not
pub frame-short_part : (part : List ℕ) (n : ℕ) → length part ≡ n → n < 20 → may_begin part ≡ true
    → frame_of part ≡ Need (20 - n)
frame-short_part part n count few may =
    frame-short part (omega (arith, count, few))
    ∙ (λ i. cond (may i) (Need (20 - count i)) NotStun)
