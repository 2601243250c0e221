-- Messages in a stream of bytes (RFC 8489, section 6.2.2).
use Rattle.std.specs.Prelude.{◌≡◌, ◌≤◌, ◌<◌, ◌^◌, ◌⊎◌, ℕ, zero, suc, ◌+◌, ◌-◌, Bool, IsTrue, List}
use Rattle.std.specs.Prelude.{[], ◌∷◌, ◌++◌, length, take, drop, slice_index, nat_lt, ◌/◌, ◌==◌}
use Rattle.std.specs.Prelude.{replicate, if◌then◌else◌}
use Rattle.byteorder.specs.Endian.{big_bytes, big_number}
use Rattle.stun_base.specs.Header.{HEADER_LENGTH, BeginsWithHeader, is_stun, length_field}
use Rattle.stun_types.specs.Attribute.{padded_length}
use Rattle.stun_types.specs.Message.{IsMessage}
use Rattle.stun_extra.specs.Turn.{IsAnyChannel}
use Rattle.stun_extra.specs.declared.framing.Frame.{Frame}
use Rattle.stun_extra.specs.declared.framing.Frame.TheVariants.{Need, Message, NotStun}

-- the frame at the front of a stream that begins with a message of `whole` bytes, of which `there`
-- bytes have arrived
abbrev pub frame_to : ℕ → ℕ → Frame
frame_to there whole = if nat_lt there whole then Need (whole - there) else Message whole

-- a header whose fields are zero where section 5 does not fix them: the two top bits, the two last
-- bits of the length, which are zero too, and the magic cookie
abbrev pub BLANK_HEADER : List ℕ
BLANK_HEADER =
    0 ∷ 0 ∷ 0 ∷ 0 ∷ 0x21 ∷ 0x12 ∷ 0xA4 ∷ 0x42
    ∷ 0 ∷ 0 ∷ 0 ∷ 0 ∷ 0 ∷ 0 ∷ 0 ∷ 0 ∷ 0 ∷ 0 ∷ 0 ∷ 0 ∷ []

-- whether a header may begin with these bytes: they form a header together with the rest of a blank
-- header (law `stream_is_cut_into_its_messages`, clause `refused`)
abbrev pub may_begin : List ℕ → Bool
may_begin bytes = is_stun (bytes ++ drop (length bytes) BLANK_HEADER)

-- the frame at the front of bytes: the header comes first, and its length states how many bytes the
-- message has (section 5)
abbrev pub frame_of : List ℕ → Frame
frame_of bytes =
    if nat_lt (length bytes) HEADER_LENGTH
    then (if may_begin bytes then Need (HEADER_LENGTH - length bytes) else NotStun)
    else if is_stun bytes then frame_to (length bytes) (HEADER_LENGTH + length_field bytes)
    else NotStun

-- a packet of STUN among those of other protocols (RFC 7983, section 7)
pub record IsStunPacket (packet : List ℕ) : Type 0 where
  pub header : BeginsWithHeader packet
  pub first : slice_index packet 0 ≤ 3

-- ---- a stream

-- for the first `n` bytes of `whole`, `reader` returns `Need`, with at least 1 and at most the
-- number of bytes that are missing
pub record IsPartBy (reader : List ℕ → Frame) (whole : List ℕ) (n : ℕ) : Type 0 where
  pub needed : ℕ
  pub answer : reader (take n whole) ≡ Need needed
  pub some : 1 ≤ needed
  pub within : n + needed ≤ length whole

-- whatever bytes follow these bytes, all of them together do not begin in this way
abbrev pub NeverBegins : (List ℕ → Type 0) → List ℕ → Type 0
NeverBegins Begins bytes =
    (more : List ℕ) → ((i : ℕ) → slice_index more i < 2 ^ 8) → Begins (bytes ++ more) → ⊥

-- the messages at the front of bytes, one after the other, and the bytes after them
pub record Cut : Type 0 where
  pub messages : List (List ℕ)
  pub rest : List ℕ

-- one more message at the front
abbrev pub with_first : List ℕ → Cut → Cut
with_first message others = record { messages = message ∷ others.messages; rest = others.rest }

-- if there is a message at the front, it is cut off, and the bytes after it are cut by `others`
abbrev pub cut_by : Frame → (List ℕ → Cut) → List ℕ → Cut
cut_by (Message n) others bytes = with_first (take n bytes) (others (drop n bytes))
cut_by (Need n) others bytes = record { messages = []; rest = bytes }
cut_by NotStun others bytes = record { messages = []; rest = bytes }

-- at most this number of messages
unfoldable pub cut_up_to : (List ℕ → Frame) → ℕ → List ℕ → Cut
cut_up_to reader zero bytes = record { messages = []; rest = bytes }
cut_up_to reader (suc most) bytes = cut_by (reader bytes) (cut_up_to reader most) bytes

-- all messages. There are at most as many messages as bytes
abbrev pub cut_of : (List ℕ → Frame) → List ℕ → Cut
cut_of reader bytes = cut_up_to reader (length bytes) bytes

-- the result after more bytes have arrived, which are cut together with the bytes that were left
abbrev pub cut_with_more : (List ℕ → Frame) → Cut → List ℕ → Cut
cut_with_more reader before more =
    record {
      messages = before.messages ++ (cut_of reader (before.rest ++ more)).messages;
      rest = (cut_of reader (before.rest ++ more)).rest;
    }

-- there is no whole message at the front
abbrev pub IsLeftOver : (List ℕ → Frame) → List ℕ → Type 0
IsLeftOver reader bytes = (n : ℕ) → reader bytes ≡ Message n → ⊥

-- ---- other frames of a stream

-- a packet after its length in 2 bytes, as ICE sends it over TCP (RFC 4571, section 2)
abbrev pub framed_packet : List ℕ → List ℕ
framed_packet packet = big_bytes 2 (length packet) ++ packet

-- bytes that are such a packet with its length
pub record IsFramedPacket (bytes : List ℕ) : Type 0 where
  pub packet : List ℕ
  pub fits : length packet < 2 ^ 16
  pub framed : bytes ≡ framed_packet packet

-- the frame at the front of bytes in a stream of such packets
abbrev pub packet_frame_of : List ℕ → Frame
packet_frame_of bytes =
    if nat_lt (length bytes) 2 then Need (2 - length bytes)
    else frame_to (length bytes) (2 + big_number 2 bytes)

-- ChannelData in a stream (RFC 8656, sections 12.4 and 12.5): the number of a channel, the length
-- of the data, the data, and padding up to a multiple of 4 bytes
abbrev pub channel_data : ℕ → List ℕ → List ℕ
channel_data channel bytes =
    big_bytes 2 channel ++ big_bytes 2 (length bytes) ++ bytes
    ++ replicate (padded_length (length bytes) - length bytes) 0

-- bytes that are such ChannelData, on a channel of RFC 5766 (section 11), whose range of channels
-- includes the range of RFC 8656
pub record IsChannelData (bytes : List ℕ) : Type 0 where
  pub channel : ℕ
  pub data_bytes : List ℕ
  pub is_channel : IsAnyChannel channel
  pub fits : length data_bytes < 2 ^ 16
  pub framed : bytes ≡ channel_data channel data_bytes

-- whether bytes begin with ChannelData: its first two bits are 01, and those of a message 00 (RFC
-- 5766, section 11)
abbrev pub is_channel : List ℕ → Bool
is_channel bytes = slice_index bytes 0 / 64 == 1

-- the frame at the front of bytes that begin with ChannelData
abbrev pub channel_frame_of : List ℕ → Frame
channel_frame_of bytes =
    if nat_lt (length bytes) 4 then Need (4 - length bytes)
    else frame_to (length bytes) (4 + padded_length (big_number 2 (drop 2 bytes)))

-- the frame at the front of bytes in a stream of messages and ChannelData. The first byte
-- distinguishes the two, and each has at least 4 bytes
abbrev pub turn_frame_of : List ℕ → Frame
turn_frame_of bytes =
    if length bytes == 0 then Need 4
    else if is_channel bytes then channel_frame_of bytes else frame_of bytes

-- a message or ChannelData
abbrev pub IsTurnItem : List ℕ → Type 0
IsTurnItem bytes = IsMessage bytes ⊎ IsChannelData bytes

-- the bytes begin with the header of a message or of ChannelData
abbrev pub BeginsWithTurnHeader : List ℕ → Type 0
BeginsWithTurnHeader bytes =
    BeginsWithHeader bytes ⊎ ((4 ≤ length bytes) × IsTrue (is_channel bytes))
