-- Four parts of the buffer, one after the other, are the attribute and what is left.
use Rattle.std.proofs.Common.{◌≡◌, ◌*◌, ◌++◌, length, drop, sym, ap, ◌∙◌, arith}
use Rattle.std.specs.Prelude.{replicate}
use Rattle.byteorder.specs.Endian.{big_bytes}
use Rattle.stun_types.specs.Attribute.{attribute_length}
use Rattle.stun_types.specs.Grammar.{spelled_attribute}
use Rattle.stun_extra.specs.Unknown.{UNKNOWN_ATTRIBUTES, spelled_types, unknown_types}
use Rattle.stun_c.specs.Extra.{types_attribute}
use Rattle.stun_c.proofs.Appended.{spelled_in}
use Rattle.stun_c.proofs.Refused.{length_spelled}
use Rattle.stun_c.proofs.unknown.spell_types.Goals as goal

pub returns : goal.returns
returns c =
    let types = unknown_types c.args.known.now c.args.message.now in
    let value = spelled_types types in
    let size : length value ≡ 2 * c.args.count = length_spelled types
    ∙ ap (λ n. 2 * n) (sym c.requires.count) in
    spelled_in UNKNOWN_ATTRIBUTES _ value c.args.buffer.now _ _ _ _ _ _
    (c.write_header.ensures ∙ (λ i. big_bytes 2 UNKNOWN_ATTRIBUTES ++ big_bytes 2 (sym size i)))
    c.write_types.ensures
    (c.write_zeros.ensures ∙ ap (λ n. replicate n 0) c.split_at_mut-padding.ensures.front_len)
    c.split_at_mut-header.ensures.back
    (c.split_at_mut-place.ensures.back
    ∙ ap (λ n. drop n c.split_at_mut-header.result.1.now) (sym size))
    c.split_at_mut-padding.ensures.back (omega (arith, size))
    ∙ ap (λ n. spelled_attribute (types_attribute types)
    ++ drop (attribute_length n) c.args.buffer.now) size
