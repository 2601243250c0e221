-- What is written is an answer.
use Rattle.std.proofs.Common.{◌≤◌, length, ap, arith}
use Rattle.stun_types.specs.Limits.{LENGTH_LIMIT}
use Rattle.stun_ice.proofs.RoomLemmas.{refusal_short}
use Rattle.stun_ice.proofs.checker.answering.make_unknown_page.Goals as goal

pub returns-in-Ok-Some-clause-bytes : goal.returns-in-Ok-Some-clause-bytes
returns-in-Ok-Some-clause-bytes g c =
    rw c.in-Ok-Some.field-0-is at c.in-Ok-Some.ensures.bytes

pub returns-in-Ok-Some-clause-short : goal.returns-in-Ok-Some-clause-short
returns-in-Ok-Some-clause-short g c =
    let whole : length c.args.check.now ≤ LENGTH_LIMIT =
    omega (arith, ap length c.as_bytes-bytes.ensures.bytes, c.as_bytes-bytes.ensures.limit) in
    let short = refusal_short c.args.known.now c.args.check.now whole in
    omega (arith, short, ap length (returns-in-Ok-Some-clause-bytes g c))

pub returns-in-Err-clause-granted : goal.returns-in-Err-clause-granted
returns-in-Err-clause-granted g c = λ grants refused.
    let whole : length c.args.check.now ≤ LENGTH_LIMIT =
    omega (arith, ap length c.as_bytes-bytes.ensures.bytes, c.as_bytes-bytes.ensures.limit) in
    let short = refusal_short c.args.known.now c.args.check.now whole in
    c.in-Err.ensures.granted grants (omega (arith, short, ap length c.requires))
