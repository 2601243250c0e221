-- The header and the entries are the spelled attribute, because entries need no padding.
use Rattle.std.proofs.Common.{◌≡◌, ◌++◌, length, ap, ◌∙◌, arith}
use Rattle.stun_base.specs.Attributes.{PASSWORD_ALGORITHMS}
use Rattle.stun_types.specs.Grammar.{spelled_attributes}
use Rattle.stun_extra.proofs.AlgorithmListLemmas.{entries-aligned, spelled-unpadded}
use Rattle.stun_extra.proofs.attribute.algorithm_list.AlgorithmListAttribute.write_into.Goals as goal

pub returns-clause-bytes : goal.returns-clause-bytes
returns-clause-bytes g c =
    let entries = c.args.self.now in
    let whole : c.count_value_bytes.result ≡ length (spelled_attributes entries) =
    omega (arith, c.count_value_bytes.ensures.length, c.requires.fits) in
    c.append_entries.ensures.bytes
    ∙ (ap (λ xs. xs ++ spelled_attributes entries) c.append_header.ensures.bytes
    ∙ spelled-unpadded (g.W.MessageWrite.bytes c.args.writer.now) PASSWORD_ALGORITHMS
    c.count_value_bytes.result entries whole)

pub returns-clause-room : goal.returns-clause-room
returns-clause-room g c =
    omega (
      arith,
      entries-aligned c.args.self.now,
      c.append_entries.ensures.room,
      c.append_header.ensures.room,
    )

pub returns-clause-reserved : goal.returns-clause-reserved
returns-clause-reserved g c =
    omega (
      arith,
      entries-aligned c.args.self.now,
      c.append_entries.ensures.reserved,
      c.append_header.ensures.reserved,
    )
