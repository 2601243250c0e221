-- The readers look at the three bits of the class alone, and the writers begin with zeros.
use Rattle.std.proofs.Common.{◌≡◌, ◌%◌, refl, arith}
use Rattle.stun_types.proofs.attribute.laws.reserved_bits.Goals as goal

pub returns-clause-error_read : goal.returns-clause-error_read
returns-clause-error_read c = λ a b class rest. let same : class % 8 % 8 ≡ class % 8 =
    omega arith in rw same

pub returns-clause-address_read : goal.returns-clause-address_read
returns-clause-address_read c = λ a rest. refl

pub returns-clause-error_written : goal.returns-clause-error_written
returns-clause-error_written c = λ error fits. (refl, omega (arith, fits.below_700))

pub returns-clause-address_written : goal.returns-clause-address_written
returns-clause-address_written c = λ address. refl
