-- ChannelData and its padding, as it is written.
use Rattle.std.specs.Prelude.{ℕ, ◌-◌, Bool, List, ◌++◌, replicate, length, if◌then◌else◌}
use Rattle.stun_types.specs.Attribute.{padded_length}
use Rattle.stun_c.specs.Turn.{channel_datagram}

-- how many zeros follow data of this many bytes
abbrev pub padding_length : ℕ → Bool → ℕ
padding_length count padded = if padded then padded_length count - count else 0

-- ChannelData with this many zeros after it
abbrev pub with_padding : ℕ → List ℕ → ℕ → List ℕ
with_padding channel bytes count = channel_datagram channel bytes ++ replicate count 0
