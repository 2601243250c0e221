-- The header, the types and the padding are the spelled attribute.
use Rattle.std.proofs.Common.{◌≡◌, ◌*◌, ◌%◌, [], ◌∷◌, ◌++◌, ◌∙◌, ap, arith}
use Rattle.byteorder.specs.Endian.{big_bytes}
use Rattle.stun_extra.specs.Unknown.{UNKNOWN_ATTRIBUTES, spelled_types}
use Rattle.stun_extra.proofs.SpelledLemmas.{spelled-even, spelled-odd}
use Rattle.stun_extra.proofs.unknown.attribute.UnknownAttributesAttribute.write_into.Goals as goal

pub returns-then-count-eq1-clause-bytes : goal.returns-then-count-eq1-clause-bytes
returns-then-count-eq1-clause-bytes g c =
    let message = g.W.MessageWrite.bytes c.args.writer.now in
    let count = c.len-count.result in
    let types = c.args.self.now in
    let written : g.W.MessageWrite.bytes c.append_types.new.writer
    ≡ ((message ++ big_bytes 2 UNKNOWN_ATTRIBUTES) ++ big_bytes 2 (2 * count))
    ++ spelled_types types =
    rw (
      c.append_types.ensures.bytes,
      c.append-2.ensures.bytes,
      c.append.ensures.bytes,
      c.to_be_bytes-2.ensures,
      c.to_be_bytes.ensures,
      c.value.ensures,
    ) in
    let odd : count % 2 ≡ 1 = omega arith in
    c.append-then-count-eq1.ensures.bytes
    ∙ (ap (λ xs. xs ++ (0 ∷ 0 ∷ [])) written
    ∙ spelled-odd message types count c.len-count.ensures.value odd)

pub returns-else-count-eq1-clause-bytes : goal.returns-else-count-eq1-clause-bytes
returns-else-count-eq1-clause-bytes g c =
    let message = g.W.MessageWrite.bytes c.args.writer.now in
    let count = c.len-count.result in
    let types = c.args.self.now in
    let written : g.W.MessageWrite.bytes c.append_types.new.writer
    ≡ ((message ++ big_bytes 2 UNKNOWN_ATTRIBUTES) ++ big_bytes 2 (2 * count))
    ++ spelled_types types =
    rw (
      c.append_types.ensures.bytes,
      c.append-2.ensures.bytes,
      c.append.ensures.bytes,
      c.to_be_bytes-2.ensures,
      c.to_be_bytes.ensures,
      c.value.ensures,
    ) in
    let even : count % 2 ≡ 0 = omega arith in
    written ∙ spelled-even message types count c.len-count.ensures.value even
