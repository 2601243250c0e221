-- The bytes are what the types are spelled with.
use Rattle.std.proofs.Common.{◌≡◌, arith}
use Rattle.stun_extra.specs.Unknown.{spelled_types, types_in}
use Rattle.stun_extra.proofs.TypesLemmas.{spelled-types_in, types_in-length}
use Rattle.stun_extra.proofs.unknown.attribute.append_received.Goals as goal

pub append-requires : goal.append-requires
append-requires g c = omega (arith, types_in-length c.args.bytes.now)

pub returns-clause-bytes : goal.returns-clause-bytes
returns-clause-bytes g c =
    let spelled : spelled_types (types_in c.args.bytes.now) ≡ c.args.bytes.now =
    spelled-types_in c.args.bytes.now (record { each = λ i. omega (arith, c.type_inv.bytes i) })
    c.requires.even in
    rw (c.append.ensures.bytes, spelled)

pub returns-clause-room : goal.returns-clause-room
returns-clause-room g c = omega (arith, types_in-length c.args.bytes.now, c.append.ensures.room)

pub returns-clause-reserved : goal.returns-clause-reserved
returns-clause-reserved g c =
    omega (arith, types_in-length c.args.bytes.now, c.append.ensures.reserved)
