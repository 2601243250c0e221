-- The results of the calls for TURN, and what they write (RFC 8656): ChannelData, and the numbers
-- in two attributes.
use Rattle.std.specs.Prelude.{◌≡◌, ℕ, ℤ, pos, ◌+◌, List, ◌++◌, Bool, length, drop, take, nat_lt}
use Rattle.std.specs.Prelude.{not, if◌then◌else◌, Option, Some, None, Result, Ok, Err}
use Rattle.byteorder.specs.Endian.{big_bytes, big_number}
use Rattle.stun_base.specs.declared.wire.error.StunParseError.{StunParseError}
use Rattle.stun_types.specs.Integrity.{first_of}
use Rattle.stun_types.specs.Message.{refusal}
use Rattle.stun_types.specs.Visible.{visible}
use Rattle.stun_extra.specs.AttributeTypes.{CHANNEL_NUMBER, REQUESTED_TRANSPORT}
use Rattle.stun_extra.specs.Framing.{channel_data, is_channel}
use Rattle.stun_extra.specs.Turn.{channel_of, is_any_channel_number, transport_of}
use Rattle.stun_numbers.specs.Refusals.{refusal_number, refusal_of_parse}
use Rattle.stun_numbers.specs.declared.refusal.Refusal.{Refusal}
use Rattle.stun_numbers.specs.declared.refusal.Refusal.TheVariants.{BadArgument, MessageTooLong}
use Rattle.stun_numbers.specs.declared.refusal.Refusal.TheVariants.{NotStun, Truncated}
use Rattle.stun_c.specs.Answers.{unless_no_message}
use Rattle.stun_c.specs.Reading.{read_member}

-- ---- ChannelData (section 12.4)

-- ChannelData in a datagram: the number of the channel, the length of the data, and the data. In a
-- stream it has padding too (section 12.5)
abbrev pub channel_datagram : ℕ → List ℕ → List ℕ
channel_datagram channel bytes = big_bytes 2 channel ++ big_bytes 2 (length bytes) ++ bytes

-- ChannelData in a stream, or in a datagram
abbrev pub channel_item : Bool → ℕ → List ℕ → List ℕ
channel_item padded channel bytes =
    if padded then channel_data channel bytes else channel_datagram channel bytes

-- the bytes that `stunp_build_channel_data` makes
abbrev pub built_channel_data : ℕ → List ℕ → Bool → Result (List ℕ) Refusal
built_channel_data channel bytes padded =
    if not (is_any_channel_number channel) then Err BadArgument
    else if nat_lt 65535 (length bytes) then Err MessageTooLong
    else Ok (channel_item padded channel bytes)

-- the stated number of bytes of data
abbrev pub stated_data : List ℕ → ℕ
stated_data bytes = big_number 2 (drop 2 bytes)

-- why bytes do not begin with whole ChannelData, if they do not. What follows the data is ignored,
-- because a sender may pad a datagram too
abbrev pub channel_refusal : List ℕ → Option Refusal
channel_refusal bytes =
    if nat_lt (length bytes) 4 then Some Truncated
    else if not (is_channel bytes) then Some NotStun
    else if nat_lt (length bytes) (4 + stated_data bytes) then Some Truncated
    else None

-- the result of `stunp_read_channel_data`: where the data begins
abbrev pub channel_answer : Option Refusal → ℤ
channel_answer None = pos 4
channel_answer (Some refusal) = refusal_number refusal

-- a number of the caller, which is set for ChannelData
abbrev pub set_by_data : Option Refusal → ℕ → ℕ → ℕ
set_by_data None number before = number
set_by_data (Some refusal) number before = before

-- bytes begin with this data on this channel, and are read as such
pub record IsReadAs (channel : ℕ) (data_bytes bytes : List ℕ) : Type 0 where
  pub whole : channel_refusal bytes ≡ None
  pub channel_is : big_number 2 bytes ≡ channel
  pub length_is : stated_data bytes ≡ length data_bytes
  pub data_is : take (length data_bytes) (drop 4 bytes) ≡ data_bytes

-- ---- attributes (sections 18.1 and 18.8)

-- a number that is read, or why there is none
abbrev pub attribute_number : Result ℕ StunParseError → ℤ
attribute_number (Ok number) = pos number
attribute_number (Err error) = refusal_number (refusal_of_parse error)

-- the channel in a message
abbrev pub channel_in : List ℕ → Result ℕ StunParseError
channel_in bytes =
    read_member CHANNEL_NUMBER channel_of (first_of CHANNEL_NUMBER (visible bytes))

-- the result of `stunp_channel_number`
abbrev pub channel_number_answer : List ℕ → ℤ
channel_number_answer bytes =
    unless_no_message (refusal bytes) (attribute_number (channel_in bytes))

-- the protocol in a message
abbrev pub transport_in : List ℕ → Result ℕ StunParseError
transport_in bytes =
    read_member REQUESTED_TRANSPORT transport_of
    (first_of REQUESTED_TRANSPORT (visible bytes))

-- the result of `stunp_requested_transport`
abbrev pub transport_answer : List ℕ → ℤ
transport_answer bytes =
    unless_no_message (refusal bytes) (attribute_number (transport_in bytes))
