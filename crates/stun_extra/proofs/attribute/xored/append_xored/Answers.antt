-- What XOR-MAPPED-ADDRESS has behind its type and its length is the value.
use Rattle.std.proofs.Common.{◌≡◌, ℕ, ◌-◌, List, ◌∷◌, ◌++◌, ◌/◌, ◌%◌, length, take}
use Rattle.std.proofs.Common.{drop, replicate, ◌∙◌, ap, arith, inl, inr, ◌^◌, min}
use Rattle.std.proofs.Math.Seq.{take-append_seam}
use Rattle.std.proofs.lemmas.List.{take_rest}
use Rattle.stun_base.specs.Attributes.{XOR_MAPPED_ADDRESS}
use Rattle.stun_types.specs.Attribute.{padded_length}
use Rattle.stun_types.specs.Grammar.{spelled_attribute}
use Rattle.stun_types.specs.WriteMutSlice.{WrittenInSlice}
use Rattle.stun_types.specs.XorMappedAddress.{IsXored, XoredAddress, xored_value}
use Rattle.stun_extra.proofs.attribute.xored.append_xored.Goals as goal

-- the value of an attribute, behind four bytes of its header
behind_header : (written value padding : List ℕ) (a b c d : ℕ)
    → written ≡ a ∷ b ∷ c ∷ d ∷ (value ++ padding)
    → take (length value) (take (length written - 4) (drop 4 written)) ≡ value
behind_header written value padding a b c d is =
    ap (take (length value)) (take_rest written 4 ∙ ap (drop 4) is) ∙ take-append_seam value padding

-- an address is shorter than a length may be
octets_fit : (address : XoredAddress) (n : ℕ) → IsXored address
    → n ≡ min (length (xored_value address)) (2 ^ 64 - 1) → n ≡ length (xored_value address)
octets_fit address n (port, inl ipv4) is = omega (arith, is, ipv4.1)
octets_fit address n (port, inr ipv6) is = omega (arith, is, ipv6.1)

pub returns-clause-bytes : goal.returns-clause-bytes
returns-clause-bytes g c =
    let value = xored_value c.args.address.now in
    let written : c.data.result.now
    ≡ spelled_attribute (record { kind = XOR_MAPPED_ADDRESS; value = value }) =
    c.data.ensures
    ∙ (c.write_into.ensures.bytes
    ∙ ap (λ (w : WrittenInSlice). w.bytes
    ++ spelled_attribute (record { kind = XOR_MAPPED_ADDRESS; value = value }))
    c.new-under_its_type.ensures) in
    let exact : c.length-length.result ≡ length value =
    octets_fit c.args.address.now c.length-length.result c.length-length.ensures.well_formed
    c.length-length.ensures.length in
    let found : c.new.result.value ≡ value =
    c.new.ensures.value
    ∙ (ap (λ n. take n (take (length c.data.result.now - 4) (drop 4 c.data.result.now))) exact
    ∙ behind_header c.data.result.now value
    (replicate (padded_length (length value) - length value) 0) 0 32 (length value / 256 % 256)
    (length value % 256) written) in
    rw (c.write_into-2.ensures.bytes, c.new.ensures.kind, found)
