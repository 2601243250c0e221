-- ChannelData is read as it was written, whatever follows it.
use Rattle.std.proofs.Common.{◌≡◌, ℕ, ◌+◌, ◌-◌, ◌/◌, ◌%◌, ◌≤◌, ◌<◌, ◌^◌, Bool, true, false}
use Rattle.std.proofs.Common.{List, ◌++◌, Some, None, cond, length, replicate}
use Rattle.std.proofs.Common.{refl, sym, ◌∙◌, ap, arith, subst, length-append, ◌*◌}
use Rattle.std.specs.Prelude.{nat_lt, slice_index, not, ◌==◌}
use Rattle.std.proofs.lemmas.Bool.Decides.{nat_tests}
use Rattle.std.proofs.lemmas.List.{append_assoc}
use Rattle.std.proofs.Math.Seq.{take-append_seam}
use Rattle.byteorder.specs.Endian.{big_bytes}
use Rattle.byteorder.specs.Numbers.{big_number-reads_back}
use Rattle.stun_types.specs.Attribute.{padded_length}
use Rattle.stun_numbers.specs.declared.refusal.Refusal.TheVariants.{NotStun, Truncated}
use Rattle.stun_extra.specs.Framing.{is_channel}
use Rattle.stun_c.specs.Turn.{IsReadAs, channel_item, stated_data}

-- a number that is not less
not_less : (a b : ℕ) → b ≤ a → nat_lt a b ≡ false
not_less a b long = grind (arith, nat_tests)

alike : (a b : ℕ) → a ≡ b → (a == b) ≡ true
alike a b same = grind (arith, nat_tests)

-- the three tests, one after the other
none_refuses : (a b c : Bool) → a ≡ false → b ≡ true → c ≡ false
    → cond a (Some Truncated) (cond (not b) (Some NotStun) (cond c (Some Truncated) None)) ≡ None
none_refuses false true false p q r = refl
none_refuses true b c p q r = cc
none_refuses false false c p q r = cc
none_refuses false true true p q r = cc

-- a header and what follows it, which is not shorter than the header states
read_back : (channel : ℕ) (data_bytes behind : List ℕ) → 0x4000 ≤ channel → channel < 0x8000
    → length data_bytes < 2 ^ 16
    → IsReadAs channel data_bytes
    (big_bytes 2 channel ++ big_bytes 2 (length data_bytes) ++ data_bytes ++ behind)
read_back channel data_bytes behind low high small =
    let n = length data_bytes in
    let body = data_bytes ++ behind in
    let all = big_bytes 2 channel ++ big_bytes 2 n ++ body in
    let sum = length-append data_bytes behind in
    let first : channel / 256 % 256 / 64 ≡ 1 = omega (arith, low, high) in
    let stated : stated_data all ≡ n = big_number-reads_back 2 n body small in
    let read : channel / 256 % 256 * 256 + (channel % 256 * 1 + 0) ≡ channel =
    omega (arith, high) in
    let count : length all ≡ 4 + n + length behind = omega (arith, sum) in
    let long : nat_lt (length all) 4 ≡ false = not_less (length all) 4 (omega (arith, count)) in
    let there : nat_lt (length all) (4 + stated_data all) ≡ false =
    ap (λ k. nat_lt (length all) (4 + k)) stated
    ∙ not_less (length all) (4 + n) (omega (arith, count)) in
    record {
      whole = none_refuses (nat_lt (length all) 4) (is_channel all)
          (nat_lt (length all) (4 + stated_data all)) long
          (alike (slice_index all 0 / 64) 1 first) there;
      channel_is = read;
      length_is = stated;
      data_is = take-append_seam data_bytes behind;
    }

-- padding is a part of what follows the data
pub read_again : (padded : Bool) (channel : ℕ) (data_bytes rest : List ℕ) → 0x4000 ≤ channel
    → channel < 0x8000 → length data_bytes < 2 ^ 16
    → IsReadAs channel data_bytes (channel_item padded channel data_bytes ++ rest)
read_again false channel data_bytes rest low high small =
    read_back channel data_bytes rest low high small
read_again true channel data_bytes rest low high small =
    let zeros : List ℕ = replicate (padded_length (length data_bytes) - length data_bytes) 0 in
    subst (λ body. IsReadAs channel data_bytes
    (big_bytes 2 channel ++ big_bytes 2 (length data_bytes) ++ body))
    (sym (append_assoc data_bytes zeros rest))
    (read_back channel data_bytes (zeros ++ rest) low high small)
