-- Each type takes two bytes.
use Rattle.std.proofs.Common.{sym, arith}
use Rattle.stun_extra.proofs.TypesLemmas.{AreTypes-types_in, types_in-length}
use Rattle.stun_extra.proofs.unknown.attribute.count_types.Goals as goal

pub returns-clause-value : goal.returns-clause-value
returns-clause-value c = sym (types_in-length c.args.bytes.now)

pub returns-clause-fit : goal.returns-clause-fit
returns-clause-fit c =
    AreTypes-types_in c.args.bytes.now (record { each = λ i. omega (arith, c.type_inv.bytes i) })
