-- The header, the entries and the padding are the spelled attribute.
use Rattle.std.proofs.Common.{append_assoc}
use Rattle.stun_types.proofs.EntryLemmas.{length_of_entries}
use Rattle.stun_types.proofs.attribute.password_algorithms.PasswordAlgorithmsAttribute.write_into.Goals as goal

pub returns-clause-bytes : goal.returns-clause-bytes
returns-clause-bytes g c =
    rw (
      c.append_padding.ensures.bytes,
      c.append_entries.ensures.bytes,
      c.append_header.ensures.bytes,
      c.len-value_length.ensures,
      length_of_entries c.args.self.now,
    )
    (simp append_assoc)
