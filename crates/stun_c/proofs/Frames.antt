-- Lengths in 2 bytes are small, and so is what a frame by them speaks of.
use Rattle.std.proofs.Common.{◌≡◌, ◌+◌, ◌-◌, ◌<◌, ◌^◌, ℕ, Bool, true, false, cond, List, length}
use Rattle.std.proofs.Common.{drop, refl, arith}
use Rattle.std.specs.Prelude.{nat_lt, slice_index, ◌==◌}
use Rattle.std.proofs.lemmas.Bool.Decides.{nat_tests}
use Rattle.byteorder.specs.Endian.{big_number}
use Rattle.byteorder.specs.Numbers.{big_from-lt}
use Rattle.stun_base.specs.Header.{is_stun}
use Rattle.stun_types.specs.Attribute.{padded_length}
use Rattle.stun_types.proofs.GrammarLemmas.{AreBytes, AreBytes-drop}
use Rattle.stun_extra.specs.Framing.{channel_frame_of, frame_of, frame_to, is_channel, may_begin}
use Rattle.stun_extra.specs.Framing.{packet_frame_of, turn_frame_of}
use Rattle.stun_extra.specs.declared.framing.Frame.{Frame}
use Rattle.stun_extra.specs.declared.framing.Frame.TheVariants.{Need, Message, NotStun}
use Rattle.stun_c.specs.code.Frames.{wanted_bytes}

-- a frame speaks of fewer bytes than an `i64` counts
abbrev IsFew : ℕ → Frame → Type 0
IsFew there frame = wanted_bytes there frame < 2 ^ 63

-- where fewer than n bytes are there, and where they are
few_to : (there n : ℕ) (rest : Frame) → n < 2 ^ 63 → IsFew there rest
    → IsFew there (cond (nat_lt there n) (Need (n - there)) rest)
few_to there n rest few others = by (nat_lt there n) refl
  where
    by : (short : Bool) → nat_lt there n ≡ short → IsFew there (cond short (Need (n - there)) rest)
    by true is = let below : there < n = grind (arith, nat_tests, is) in omega (arith, below, few)
    by false is = others

few_either : (there : ℕ) (test : Bool) (one other : Frame) → IsFew there one → IsFew there other
    → IsFew there (cond test one other)
few_either there true one other few others = few
few_either there false one other few others = others

-- where fewer may be refused
few_short : (there n : ℕ) (may : Bool) (rest : Frame) → n < 2 ^ 63 → IsFew there rest
    → IsFew there (cond (nat_lt there n) (cond may (Need (n - there)) NotStun) rest)
few_short there n true rest few others = few_to there n rest few others
few_short there n false rest few others =
    few_either there (nat_lt there n) NotStun rest (omega arith) others

-- where none is there
few_first : (there : ℕ) (rest : Frame) → IsFew there rest
    → IsFew there (cond (there == 0) (Need 4) rest)
few_first there rest others = by (there == 0) refl
  where
    by : (none : Bool) → (there == 0) ≡ none → IsFew there (cond none (Need 4) rest)
    by true is = let none : there ≡ 0 = grind (arith, nat_tests, is) in omega (arith, none)
    by false is = others

few_frame_to : (there whole : ℕ) → whole < 2 ^ 63 → IsFew there (frame_to there whole)
few_frame_to there whole few = few_to there whole (Message whole) few few

-- a length in 2 bytes
small_number : (n : ℕ) (bytes : List ℕ) → ((i : ℕ) → slice_index bytes i < 2 ^ 8)
    → big_number 2 (drop n bytes) < 2 ^ 16
small_number n bytes small =
    let behind : AreBytes (drop n bytes) = AreBytes-drop n bytes (record { each = small }) in
    big_from-lt 0 2 (drop n bytes) behind.each

pub few_of_message : (bytes : List ℕ) → ((i : ℕ) → slice_index bytes i < 2 ^ 8)
    → IsFew (length bytes) (frame_of bytes)
few_of_message bytes small =
    let there = length bytes in
    let whole = 20 + big_number 2 (drop 2 bytes) in
    let few : IsFew there (frame_to there whole) =
    few_frame_to there whole (omega (arith, small_number 2 bytes small)) in
    few_short there 20 (may_begin bytes) (cond (is_stun bytes) (frame_to there whole) NotStun)
    (omega arith)
    (few_either there (is_stun bytes) (frame_to there whole) NotStun few (omega arith))

pub few_of_packet : (bytes : List ℕ) → ((i : ℕ) → slice_index bytes i < 2 ^ 8)
    → IsFew (length bytes) (packet_frame_of bytes)
few_of_packet bytes small =
    let there = length bytes in
    let whole = 2 + big_number 2 bytes in
    few_to there 2 (frame_to there whole) (omega arith)
    (few_frame_to there whole (omega (arith, small_number 0 bytes small)))

pub few_of_turn : (bytes : List ℕ) → ((i : ℕ) → slice_index bytes i < 2 ^ 8)
    → IsFew (length bytes) (turn_frame_of bytes)
few_of_turn bytes small =
    let there = length bytes in
    let whole = 4 + padded_length (big_number 2 (drop 2 bytes)) in
    let few : IsFew there (frame_to there whole) =
    few_frame_to there whole (omega (arith, small_number 2 bytes small)) in
    few_first there (cond (is_channel bytes) (channel_frame_of bytes) (frame_of bytes))
    (few_either there (is_channel bytes) (channel_frame_of bytes) (frame_of bytes)
    (few_to there 4 (frame_to there whole) (omega arith) few) (few_of_message bytes small))
