-- The bytes of the number are the value.
use Rattle.stun_extra.proofs.attribute.tie_breaker.TieBreakerAttribute.write_into.Goals
    as goal

pub returns-clause-bytes : goal.returns-clause-bytes
returns-clause-bytes g c =
    rw (
      c.write_into.ensures.bytes,
      c.new.ensures.kind,
      c.new.ensures.value,
      c.to_be_bytes.ensures,
      c.self.view_is,
    )
