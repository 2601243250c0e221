-- The value that is added is that of the error.
use Rattle.std.proofs.Common.{◌+◌, ◌++◌, length, take, drop, ◌∙◌}
use Rattle.stun_base.specs.Attributes.{ERROR_CODE}
use Rattle.stun_types.specs.Attribute.{attribute_length}
use Rattle.stun_types.specs.Writing.{with_attribute}
use Rattle.stun_c.proofs.unknown.append_error.Goals as goal

pub returns : goal.returns
returns c =
    c.append.ensures.written
    ∙ (λ i. with_attribute (take 20 c.args.out.now)
    (record { kind = ERROR_CODE; value = c.write_error.ensures i })
    ++ drop (20 + attribute_length (length (c.write_error.ensures i))) c.args.out.now)
