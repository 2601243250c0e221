-- ChannelData among messages: the first two bits tell them apart.
use Rattle.std.proofs.Common.{◌≡◌, ℕ, zero, suc, ◌+◌, ◌-◌, ◌/◌, ◌%◌, ◌≤◌, ◌<◌, ◌^◌, ◌≢◌, Bool}
use Rattle.std.proofs.Common.{true, false, cond, List, [], ◌∷◌, ◌++◌, ◌⊎◌, inl, inr, length, take}
use Rattle.std.proofs.Common.{drop, replicate, refl, sym, ◌∙◌, ap, arith, length-append, subst}
use Rattle.std.proofs.Common.{length-drop}
use Rattle.std.specs.Prelude.{nat_lt, slice_index, IsTrue, ◌==◌, ◌↔◌}
use Rattle.std.proofs.lemmas.Bool.Decides.{nat_tests}
use Rattle.std.proofs.lemmas.List.{drop-append-le, length-replicate, length-take-le}
use Rattle.byteorder.specs.Endian.{big_number}
use Rattle.byteorder.specs.Numbers.{big_from-append, big_number-reads_back}
use Rattle.stun_base.specs.Header.{BeginsWithHeader, type_field}
use Rattle.stun_types.specs.Attribute.{padded_length}
use Rattle.stun_types.specs.Message.{IsMessage}
use Rattle.stun_types.proofs.HeaderLemmas.{fields_of}
use Rattle.stun_extra.specs.Framing.{BeginsWithTurnHeader, IsChannelData, IsPartBy, IsTurnItem}
use Rattle.stun_extra.specs.Framing.{NeverBegins, channel_data, channel_frame_of, frame_of}
use Rattle.stun_extra.specs.Framing.{frame_to, is_channel, turn_frame_of}
use Rattle.stun_extra.specs.declared.framing.Frame.{Frame}
use Rattle.stun_extra.specs.declared.framing.Frame.TheVariants.{Need, Message, NotStun}
use Rattle.stun_extra.proofs.BeginLemmas.{blank-never, frame-never, frame-part}
use Rattle.stun_extra.proofs.CuttingLemmas.{IsSteady, TakesWhole}
use Rattle.stun_extra.proofs.FramingLemmas.{frame-message, frame-steady}
use Rattle.stun_extra.proofs.PacketLemmas.{frame_to-part, frame_to-there, frame_to-whole}
use Rattle.stun_extra.proofs.PacketLemmas.{is_not_lt, long_enough}

alike : (a b : ℕ) → a ≡ b → (a == b) ≡ true
alike a b same = grind (arith, nat_tests)

differ : (a b : ℕ) → a ≢ b → (a == b) ≡ false
differ a b other = grind (arith, nat_tests)

-- the first byte tells which it is
turn-channel : (bytes : List ℕ) → 1 ≤ length bytes → is_channel bytes ≡ true
    → turn_frame_of bytes ≡ channel_frame_of bytes
turn-channel [] long is = absurd (omega (arith, long))
turn-channel (x ∷ xs) long is =
    let some : (length (x ∷ xs) == 0) ≡ false = grind (arith, nat_tests) in
    ap (λ b. cond b (Need 4)
    (cond (is_channel (x ∷ xs)) (channel_frame_of (x ∷ xs)) (frame_of (x ∷ xs)))) some
    ∙ ap (λ b. cond b (channel_frame_of (x ∷ xs)) (frame_of (x ∷ xs))) is

turn-other : (bytes : List ℕ) → 1 ≤ length bytes → is_channel bytes ≡ false
    → turn_frame_of bytes ≡ frame_of bytes
turn-other [] long is = absurd (omega (arith, long))
turn-other (x ∷ xs) long is =
    let some : (length (x ∷ xs) == 0) ≡ false = grind (arith, nat_tests) in
    ap (λ b. cond b (Need 4)
    (cond (is_channel (x ∷ xs)) (channel_frame_of (x ∷ xs)) (frame_of (x ∷ xs)))) some
    ∙ ap (λ b. cond b (channel_frame_of (x ∷ xs)) (frame_of (x ∷ xs))) is

-- ---- ChannelData

-- with its header there, the length in it decides
channel-long : (bytes : List ℕ) (count : ℕ) → 4 ≤ length bytes → slice_index bytes 0 / 64 ≡ 1
    → big_number 2 (drop 2 bytes) ≡ count
    → turn_frame_of bytes ≡ frame_to (length bytes) (4 + padded_length count)
channel-long bytes count long first stated =
    let data_frame = frame_to (length bytes) (4 + padded_length (big_number 2 (drop 2 bytes))) in
    turn-channel bytes (omega (arith, long)) (alike (slice_index bytes 0 / 64) 1 first)
    ∙ (ap (λ b. cond b (Need (4 - length bytes)) data_frame) (is_not_lt (length bytes) 4 long)
    ∙ ap (λ k. frame_to (length bytes) (4 + padded_length k)) stated)

-- the data and its padding fill the padded length
length-body : (bytes : List ℕ)
    → length (bytes ++ replicate (padded_length (length bytes) - length bytes) 0)
    ≡ padded_length (length bytes)
length-body bytes =
    let zeros : List ℕ = replicate (padded_length (length bytes) - length bytes) 0 in
    let sum = length-append bytes zeros in
    let count : length zeros ≡ padded_length (length bytes) - length bytes = rw length-replicate in
    omega (arith, sum, count)

pub channel-whole : (channel : ℕ) (bytes rest : List ℕ) → 0x4000 ≤ channel → channel < 0x8000
    → length bytes < 2 ^ 16
    → turn_frame_of (channel_data channel bytes ++ rest)
    ≡ Message (length (channel_data channel bytes))
channel-whole channel bytes rest low high small =
    let n = length bytes in
    let tail = bytes ++ replicate (padded_length n - n) 0 in
    let all = channel_data channel bytes ++ rest in
    let sum = length-append tail rest in
    let padded = length-body bytes in
    let count : length all ≡ 4 + padded_length n + length rest = omega (arith, sum, padded) in
    let first : channel / 256 % 256 / 64 ≡ 1 = omega (arith, low, high) in
    let stated : big_number 2 (drop 2 all) ≡ n = big_number-reads_back 2 n (tail ++ rest) small in
    let whole : length (channel_data channel bytes) ≡ 4 + padded_length n = omega (arith, padded) in
    channel-long all n (omega (arith, count)) first stated
    ∙ (frame_to-whole (length all) (4 + padded_length n) (omega (arith, count))
    ∙ ap Message (sym whole))

pub channel-part : (channel : ℕ) (bytes : List ℕ) (n : ℕ) → 0x4000 ≤ channel → channel < 0x8000
    → length bytes < 2 ^ 16
    → n < length (channel_data channel bytes)
    → IsPartBy turn_frame_of (channel_data channel bytes) n
channel-part channel bytes zero low high small below =
    record { needed = 4; answer = refl; some = omega arith; within = omega arith }
channel-part channel bytes (suc zero) low high small below =
    let padded = length-body bytes in
    let part = take (suc zero) (channel_data channel bytes) in
    let first : channel / 256 % 256 / 64 ≡ 1 = omega (arith, low, high) in
    record {
      needed = 3;
      answer = turn-channel part (omega arith) (alike (channel / 256 % 256 / 64) 1 first);
      some = omega arith;
      within = omega (arith, padded);
    }
channel-part channel bytes (suc (suc zero)) low high small below =
    let padded = length-body bytes in
    let part = take (suc (suc zero)) (channel_data channel bytes) in
    let first : channel / 256 % 256 / 64 ≡ 1 = omega (arith, low, high) in
    record {
      needed = 2;
      answer = turn-channel part (omega arith) (alike (channel / 256 % 256 / 64) 1 first);
      some = omega arith;
      within = omega (arith, padded);
    }
channel-part channel bytes (suc (suc (suc zero))) low high small below =
    let padded = length-body bytes in
    let part = take (suc (suc (suc zero))) (channel_data channel bytes) in
    let first : channel / 256 % 256 / 64 ≡ 1 = omega (arith, low, high) in
    record {
      needed = 1;
      answer = turn-channel part (omega arith) (alike (channel / 256 % 256 / 64) 1 first);
      some = omega arith;
      within = omega (arith, padded);
    }
channel-part channel bytes (suc (suc (suc (suc k)))) low high small below =
    let n = length bytes in
    let tail = bytes ++ replicate (padded_length n - n) 0 in
    let there = take (suc (suc (suc (suc k)))) (channel_data channel bytes) in
    let padded = length-body bytes in
    let fewer : k < padded_length n = omega (arith, below, padded) in
    let part : length (take k tail) ≡ k = length-take-le k tail (omega (arith, fewer, padded)) in
    let count : length there ≡ 4 + k = omega (arith, part) in
    let first : channel / 256 % 256 / 64 ≡ 1 = omega (arith, low, high) in
    let stated : big_number 2 (drop 2 there) ≡ n = big_number-reads_back 2 n (take k tail) small in
    record {
      needed = 4 + padded_length n - (4 + k);
      answer =
          channel-long there n (omega (arith, count)) first stated
          ∙ (ap (λ l. frame_to l (4 + padded_length n)) count
          ∙ frame_to-part (4 + k) (4 + padded_length n) (omega (arith, fewer)));
      some = omega (arith, fewer);
      within = omega (arith, fewer, padded);
    }

pub channel-item : TakesWhole turn_frame_of IsChannelData
channel-item item rest framed =
    let P : List ℕ → Type 0 = λ xs. turn_frame_of (xs ++ rest) ≡ Message (length xs) in
    let is_any = framed.is_channel in
    subst P (sym framed.framed)
    (channel-whole framed.channel framed.data_bytes rest is_any.0 is_any.1 framed.fits)

-- what is whole by the length in its header
record IsWholeChannel (bytes : List ℕ) (n : ℕ) : Type 0 where
  pub long : 4 ≤ length bytes
  pub enough : 4 + padded_length (big_number 2 (drop 2 bytes)) ≤ length bytes
  pub counted : 4 + padded_length (big_number 2 (drop 2 bytes)) ≡ n

whole_channel : (bytes : List ℕ) (n : ℕ) → channel_frame_of bytes ≡ Message n
    → IsWholeChannel bytes n
whole_channel bytes n answer =
    let whole = 4 + padded_length (big_number 2 (drop 2 bytes)) in
    let told = long_enough (length bytes) 4 n (frame_to (length bytes) whole) answer in
    let there = frame_to-there (length bytes) whole n told.1 in
    record { long = told.0; enough = there.enough; counted = there.counted }

-- ---- messages among them

-- the two top bits of a message are zero
not_channel : (message rest : List ℕ) → 20 ≤ length message → type_field message < 2 ^ 14
    → is_channel (message ++ rest) ≡ false
not_channel [] rest long top_bits = absurd (omega (arith, long))
not_channel (x ∷ message) rest long top_bits =
    let other : x / 64 ≢ 1 = omega (arith, top_bits) in differ (x / 64) 1 other

pub turn-message : (message rest : List ℕ) → IsMessage message
    → turn_frame_of (message ++ rest) ≡ Message (length message)
turn-message message rest is_message =
    let long = is_message.header.is_whole in
    let fields = fields_of message is_message.header.fields in
    turn-other (message ++ rest) (omega (arith, long, length-append message rest))
    (not_channel message rest long fields.top_bits)
    ∙ frame-message message rest is_message

pub turn-item : TakesWhole turn_frame_of IsTurnItem
turn-item item rest (inl is_message) = turn-message item rest is_message
turn-item item rest (inr framed) = channel-item item rest framed

-- a part of a message needs more here too
pub turn-part : (message : List ℕ) (n : ℕ) → IsMessage message
    → ((i : ℕ) → slice_index message i < 2 ^ 8) → n < length message
    → IsPartBy turn_frame_of message n
turn-part message zero is_message each below =
    record {
      needed = 4;
      answer = refl;
      some = omega arith;
      within = omega (arith, is_message.header.is_whole);
    }
turn-part [] (suc k) is_message each below = absurd (omega (arith, below))
turn-part (x ∷ xs) (suc k) is_message each below =
    let part = frame-part (x ∷ xs) (suc k) is_message each below in
    let fields = fields_of (x ∷ xs) is_message.header.fields in
    let other : x / 64 ≢ 1 = omega (arith, fields.top_bits) in
    record {
      needed = part.needed;
      answer = turn-other (x ∷ take k xs) (omega arith) (differ (x / 64) 1 other) ∙ part.answer;
      some = part.some;
      within = part.within;
    }

-- ---- cutting

-- what is whole here is whole ChannelData, or a whole message
data IsWholeTurn (bytes : List ℕ) (n : ℕ) : Type 0 where
  of_channel : is_channel bytes ≡ true → IsWholeChannel bytes n → IsWholeTurn bytes n
  of_message : is_channel bytes ≡ false → 1 ≤ length bytes → frame_of bytes ≡ Message n
      → IsWholeTurn bytes n

whole_turn : (bytes : List ℕ) (n : ℕ) → turn_frame_of bytes ≡ Message n → IsWholeTurn bytes n
whole_turn [] n answer = cc
whole_turn (x ∷ xs) n answer = by (is_channel (x ∷ xs)) refl
  where
    some : 1 ≤ length (x ∷ xs)
    some = omega arith

    by : (channel : Bool) → is_channel (x ∷ xs) ≡ channel → IsWholeTurn (x ∷ xs) n
    by true is =
        of_channel is
        (whole_channel (x ∷ xs) n (sym (turn-channel (x ∷ xs) some is) ∙ answer))
    by false is = of_message is some (sym (turn-other (x ∷ xs) some is) ∙ answer)

-- the first byte stays the first
is_channel-more : (bytes more : List ℕ) → 1 ≤ length bytes
    → is_channel (bytes ++ more) ≡ is_channel bytes
is_channel-more [] more some = absurd (omega (arith, some))
is_channel-more (x ∷ xs) more some = refl

turn-some : (bytes : List ℕ) (n : ℕ) → IsWholeTurn bytes n → 1 ≤ n
turn-some bytes n (of_channel is whole) = omega (arith, whole.counted)
turn-some bytes n (of_message is some answer) = frame-steady.some bytes n answer

turn-within : (bytes : List ℕ) (n : ℕ) → IsWholeTurn bytes n → n ≤ length bytes
turn-within bytes n (of_channel is whole) = omega (arith, whole.counted, whole.enough)
turn-within bytes n (of_message is some answer) = frame-steady.within bytes n answer

turn-stays : (bytes more : List ℕ) (n : ℕ) → IsWholeTurn bytes n
    → turn_frame_of (bytes ++ more) ≡ Message n
turn-stays bytes more n (of_channel is whole) =
    let sum = length-append bytes more in
    let count = big_number 2 (drop 2 bytes) in
    let some : 1 ≤ length bytes = omega (arith, whole.long) in
    let first : slice_index (bytes ++ more) 0 / 64 ≡ 1 =
    grind (arith, nat_tests, is_channel-more bytes more some ∙ is) in
    let stated : big_number 2 (drop 2 (bytes ++ more)) ≡ count =
    ap (big_number 2) (drop-append-le 2 bytes more (omega (arith, whole.long)))
    ∙ big_from-append 2 (drop 2 bytes) more (omega (arith, whole.long, length-drop 2 bytes)) in
    channel-long (bytes ++ more) count (omega (arith, sum, whole.long)) first stated
    ∙ (frame_to-whole (length (bytes ++ more)) (4 + padded_length count)
    (omega (arith, sum, whole.enough)) ∙ ap Message whole.counted)
turn-stays bytes more n (of_message is some answer) =
    turn-other (bytes ++ more) (omega (arith, some, length-append bytes more))
    (is_channel-more bytes more some ∙ is)
    ∙ frame-steady.stays bytes more n answer

pub turn-steady : IsSteady turn_frame_of
turn-steady = record {
  some = λ bytes n answer. turn-some bytes n (whole_turn bytes n answer);
  within = λ bytes n answer. turn-within bytes n (whole_turn bytes n answer);
  stays = λ bytes more n answer. turn-stays bytes more n (whole_turn bytes n answer);
}

-- ---- what is refused

channel-begun : (bytes : List ℕ) → channel_frame_of bytes ≡ NotStun → ⊥
channel-begun bytes refused =
    by (nat_lt (length bytes) 4)
    (nat_lt (length bytes) (4 + padded_length (big_number 2 (drop 2 bytes)))) refused
  where
    whole : ℕ
    whole = 4 + padded_length (big_number 2 (drop 2 bytes))

    by : (short part : Bool)
        → cond short (Need (4 - length bytes))
        (cond part (Need (whole - length bytes)) (Message whole)) ≡ NotStun → ⊥
    by true part refused = cc
    by false true refused = cc
    by false false refused = cc

zeros : (i : ℕ) → slice_index (0 ∷ 0 ∷ 0 ∷ []) i < 2 ^ 8
zeros zero = omega arith
zeros (suc zero) = omega arith
zeros (suc (suc zero)) = omega arith
zeros (suc (suc (suc i))) = omega arith

-- bytes are refused exactly where neither begins with them
pub turn-never : (bytes : List ℕ)
    → (turn_frame_of bytes ≡ NotStun) ↔ NeverBegins BeginsWithTurnHeader bytes
turn-never [] = (
  λ refused. cc,
  λ never. absurd (blank-never [] (λ more each begins. never more each (inl begins)) refl),
)
turn-never (x ∷ xs) = by (is_channel (x ∷ xs)) refl
  where
    some : 1 ≤ length (x ∷ xs)
    some = omega arith

    four : (more : List ℕ) → 3 ≤ length more → 4 ≤ length ((x ∷ xs) ++ more)
    four more three = let sum = length-append (x ∷ xs) more in omega (arith, three, sum)

    by : (channel : Bool) → is_channel (x ∷ xs) ≡ channel
        → (turn_frame_of (x ∷ xs) ≡ NotStun) ↔ NeverBegins BeginsWithTurnHeader (x ∷ xs)
    by true is = (
      λ refused.
          absurd (channel-begun (x ∷ xs) (sym (turn-channel (x ∷ xs) some is) ∙ refused)),
      λ never.
          absurd
          (never (0 ∷ 0 ∷ 0 ∷ []) zeros (inr (four (0 ∷ 0 ∷ 0 ∷ []) (omega arith), is))),
    )
    by false is =
        let same = turn-other (x ∷ xs) some is in (
          λ refused more each begins. refuted more each begins (sym same ∙ refused),
          λ never.
              same ∙ (frame-never (x ∷ xs)).1 (λ more each begins. never more each (inl begins)),
        )
      where
        refuted : (more : List ℕ) → ((i : ℕ) → slice_index more i < 2 ^ 8)
            → BeginsWithTurnHeader ((x ∷ xs) ++ more) → frame_of (x ∷ xs) ≡ NotStun → ⊥
        refuted more each (inl begins) refused =
            (frame-never (x ∷ xs)).0 refused more each begins
        refuted more each (inr begins) refused =
            let apart : true ≡ false = sym begins.1 ∙ is in cc
