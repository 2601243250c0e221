-- Packets behind their length.
use Rattle.std.proofs.Common.{◌≡◌, ℕ, zero, suc, ◌+◌, ◌-◌, ◌≤◌, ◌<◌, ◌^◌, Bool, true, false}
use Rattle.std.proofs.Common.{cond, List, ◌++◌, length, take, refl, sym, ◌∙◌, ap, arith, subst}
use Rattle.std.proofs.Common.{length-append}
use Rattle.std.specs.Prelude.{nat_lt}
use Rattle.std.proofs.lemmas.Bool.Decides.{nat_tests}
use Rattle.std.proofs.lemmas.List.{length-take-le}
use Rattle.byteorder.specs.Endian.{big_number}
use Rattle.byteorder.specs.Numbers.{big_from-append, big_number-reads_back}
use Rattle.stun_extra.specs.Framing.{IsFramedPacket, IsPartBy, frame_to, framed_packet}
use Rattle.stun_extra.specs.Framing.{packet_frame_of}
use Rattle.stun_extra.specs.declared.framing.Frame.{Frame}
use Rattle.stun_extra.specs.declared.framing.Frame.TheVariants.{Need, Message}
use Rattle.stun_extra.proofs.CuttingLemmas.{IsSteady, TakesWhole}

pub is_lt : (a b : ℕ) → a < b → nat_lt a b ≡ true
is_lt a b below = grind (arith, nat_tests)

pub is_not_lt : (a b : ℕ) → b ≤ a → nat_lt a b ≡ false
is_not_lt a b above = grind (arith, nat_tests)

pub frame_to-whole : (there whole : ℕ) → whole ≤ there → frame_to there whole ≡ Message whole
frame_to-whole there whole enough =
    ap (λ b. cond b (Need (whole - there)) (Message whole)) (is_not_lt there whole enough)

pub frame_to-part : (there whole : ℕ) → there < whole → frame_to there whole ≡ Need (whole - there)
frame_to-part there whole few =
    ap (λ b. cond b (Need (whole - there)) (Message whole)) (is_lt there whole few)

-- a whole that is there
pub record IsThere (there whole n : ℕ) : Type 0 where
  pub enough : whole ≤ there
  pub counted : whole ≡ n

pub frame_to-there : (there whole n : ℕ) → frame_to there whole ≡ Message n → IsThere there whole n
frame_to-there there whole n answer = by (nat_lt there whole) refl answer
  where
    by : (part : Bool) → nat_lt there whole ≡ part
        → cond part (Need (whole - there)) (Message whole) ≡ Message n → IsThere there whole n
    by true is answer = cc
    by false is answer =
        let enough : whole ≤ there = grind (arith, nat_tests, is) in
        let counted : whole ≡ n = cc in record { enough = enough; counted = counted }

-- what needs more than a few bytes to tell is not whole with fewer
pub long_enough : (there least n : ℕ) (rest : Frame)
    → cond (nat_lt there least) (Need (least - there)) rest ≡ Message n
    → (least ≤ there) × (rest ≡ Message n)
long_enough there least n rest answer = by (nat_lt there least) refl answer
  where
    by : (short : Bool) → nat_lt there least ≡ short
        → cond short (Need (least - there)) rest ≡ Message n
        → (least ≤ there) × (rest ≡ Message n)
    by true is answer = cc
    by false is answer = (grind (arith, nat_tests, is), answer)

-- ---- packets

-- with the length there, it decides
packet-long : (bytes : List ℕ) (count : ℕ) → 2 ≤ length bytes → big_number 2 bytes ≡ count
    → packet_frame_of bytes ≡ frame_to (length bytes) (2 + count)
packet-long bytes count long stated =
    ap (λ b. cond b (Need (2 - length bytes)) (frame_to (length bytes) (2 + big_number 2 bytes)))
    (is_not_lt (length bytes) 2 long)
    ∙ ap (λ k. frame_to (length bytes) (2 + k)) stated

pub packet-whole : (packet rest : List ℕ) → length packet < 2 ^ 16
    → packet_frame_of (framed_packet packet ++ rest) ≡ Message (length (framed_packet packet))
packet-whole packet rest small =
    let bytes = framed_packet packet ++ rest in
    let sum = length-append packet rest in
    let count : length bytes ≡ 2 + length packet + length rest = omega (arith, sum) in
    let stated : big_number 2 bytes ≡ length packet =
    big_number-reads_back 2 (length packet) (packet ++ rest) small in
    let whole : length (framed_packet packet) ≡ 2 + length packet = omega arith in
    packet-long bytes (length packet) (omega (arith, count)) stated
    ∙ (frame_to-whole (length bytes) (2 + length packet) (omega (arith, count))
    ∙ ap Message (sym whole))

pub packet-part : (packet : List ℕ) (n : ℕ) → length packet < 2 ^ 16
    → n < length (framed_packet packet)
    → IsPartBy packet_frame_of (framed_packet packet) n
packet-part packet zero small below =
    record { needed = 2; answer = refl; some = omega arith; within = omega arith }
packet-part packet (suc zero) small below =
    record { needed = 1; answer = refl; some = omega arith; within = omega arith }
packet-part packet (suc (suc k)) small below =
    let bytes = take (suc (suc k)) (framed_packet packet) in
    let part : length (take k packet) ≡ k = length-take-le k packet (omega (arith, below)) in
    let count : length bytes ≡ 2 + k = omega (arith, part) in
    let stated : big_number 2 bytes ≡ length packet =
    big_number-reads_back 2 (length packet) (take k packet) small in
    record {
      needed = 2 + length packet - (2 + k);
      answer =
          packet-long bytes (length packet) (omega (arith, count)) stated
          ∙ (ap (λ there. frame_to there (2 + length packet)) count
          ∙ frame_to-part (2 + k) (2 + length packet) (omega (arith, below)));
      some = omega (arith, below);
      within = omega (arith, below);
    }

pub packet-item : TakesWhole packet_frame_of IsFramedPacket
packet-item item rest framed =
    let P : List ℕ → Type 0 = λ xs. packet_frame_of (xs ++ rest) ≡ Message (length xs) in
    subst P (sym framed.framed) (packet-whole framed.packet rest framed.fits)

-- what is whole by its length
record IsWholePacket (bytes : List ℕ) (n : ℕ) : Type 0 where
  pub long : 2 ≤ length bytes
  pub enough : 2 + big_number 2 bytes ≤ length bytes
  pub counted : 2 + big_number 2 bytes ≡ n

whole_packet : (bytes : List ℕ) (n : ℕ) → packet_frame_of bytes ≡ Message n
    → IsWholePacket bytes n
whole_packet bytes n answer =
    let told =
    long_enough (length bytes) 2 n (frame_to (length bytes) (2 + big_number 2 bytes)) answer in
    let there = frame_to-there (length bytes) (2 + big_number 2 bytes) n told.1 in
    record { long = told.0; enough = there.enough; counted = there.counted }

pub packet-steady : IsSteady packet_frame_of
packet-steady = record {
  some = λ bytes n answer. let known = whole_packet bytes n answer in omega (arith, known.counted);
  within =
      λ bytes n answer.
      let known = whole_packet bytes n answer in omega (arith, known.counted, known.enough);
  stays =
      λ bytes more n answer.
      let known = whole_packet bytes n answer in
      let sum = length-append bytes more in
      packet-long (bytes ++ more) (big_number 2 bytes) (omega (arith, sum, known.long))
      (big_from-append 2 bytes more known.long)
      ∙ (frame_to-whole (length (bytes ++ more)) (2 + big_number 2 bytes)
      (omega (arith, sum, known.enough)) ∙ ap Message known.counted);
}
