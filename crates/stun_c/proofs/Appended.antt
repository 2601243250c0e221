-- What writing the parts of a buffer, one after the other, makes of the whole.
use Rattle.std.proofs.Common.{◌≡◌, ℕ, ◌+◌, ◌-◌, List, ◌++◌, length}
use Rattle.std.proofs.Common.{drop, append_assoc, ap, ◌∙◌, arith}
use Rattle.std.specs.Prelude.{replicate}
use Rattle.std.proofs.lemmas.List.{drop-drop}
use Rattle.byteorder.specs.Endian.{big_bytes}
use Rattle.stun_types.specs.Attribute.{attribute_length, padded_length}
use Rattle.stun_types.specs.Grammar.{spelled_attribute}
use Rattle.stun_c.specs.code.Channels.{with_padding}

-- an attribute, written part by part to the front of a buffer
pub spelled_in : (kind padding : ℕ) (value buffer header place zeros rest rest' tail : List ℕ)
    → header ≡ big_bytes 2 kind ++ big_bytes 2 (length value) → place ≡ value
    → zeros ≡ replicate padding 0
    → rest ≡ drop 4 buffer → rest' ≡ drop (length value) rest → tail ≡ drop padding rest'
    → length value + padding ≡ padded_length (length value)
    → header ++ (place ++ (zeros ++ tail))
    ≡ spelled_attribute (record { kind = kind; value = value })
    ++ drop (attribute_length (length value)) buffer
spelled_in kind padding value buffer header place zeros rest rest' tail is_header is_place is_zeros
    is_rest is_rest' is_tail is_padding =
    let behind : tail ≡ drop (4 + length value + padding) buffer =
    is_tail ∙ (ap (drop padding)
    (is_rest' ∙ (ap (drop (length value)) is_rest ∙ drop-drop (length value) 4 buffer))
    ∙ drop-drop padding (4 + length value) buffer) in
    let end : 4 + length value + padding ≡ attribute_length (length value) = omega arith in
    let count : padding ≡ padded_length (length value) - length value = omega arith in
    rw (is_header, is_place, is_zeros, behind, end, count) (simp append_assoc)

-- ChannelData with its padding, written part by part to the front of a buffer
pub channel_data_in : (channel padding : ℕ)
    (bytes buffer header place zeros rest rest' tail : List ℕ)
    → header ≡ big_bytes 2 channel ++ big_bytes 2 (length bytes) → place ≡ bytes
    → zeros ≡ replicate padding 0
    → rest ≡ drop 4 buffer → rest' ≡ drop (length bytes) rest → tail ≡ drop padding rest'
    → header ++ (place ++ (zeros ++ tail))
    ≡ with_padding channel bytes padding ++ drop (4 + length bytes + padding) buffer
channel_data_in channel padding bytes buffer header place zeros rest rest' tail is_header is_place
    is_zeros is_rest is_rest' is_tail =
    let behind : tail ≡ drop (4 + length bytes + padding) buffer =
    is_tail ∙ (ap (drop padding)
    (is_rest' ∙ (ap (drop (length bytes)) is_rest ∙ drop-drop (length bytes) 4 buffer))
    ∙ drop-drop padding (4 + length bytes) buffer) in
    rw (is_header, is_place, is_zeros, behind) (simp append_assoc)
