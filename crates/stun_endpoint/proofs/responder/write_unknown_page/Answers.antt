-- The response to a request with types that are not understood.
use Rattle.std.proofs.Common.{◌≤◌, arith, ap, length, subst, sym}
use Rattle.stun_types.specs.Limits.{LENGTH_LIMIT}
use Rattle.stun_endpoint.specs.code.Room.{IsEndable}
use Rattle.stun_endpoint.proofs.RoomLemmas.{not_empty, refusal_has_room}
use Rattle.stun_endpoint.proofs.responder.write_unknown_page.Goals as goal

pub returns-in-Ok-Some-clause-bytes : goal.returns-in-Ok-Some-clause-bytes
returns-in-Ok-Some-clause-bytes g c =
    rw c.in-Ok-Some.field-0-is at c.in-Ok-Some.ensures.bytes

pub returns-in-Ok-Some-clause-room : goal.returns-in-Ok-Some-clause-room
returns-in-Ok-Some-clause-room g c =
    let whole : length c.args.request.now ≤ LENGTH_LIMIT =
    omega (arith, ap length c.as_bytes-bytes.ensures.bytes, c.as_bytes-bytes.ensures.limit) in
    subst IsEndable (sym (returns-in-Ok-Some-clause-bytes g c))
    (refusal_has_room c.args.known.now c.args.request.now whole)

pub returns-in-Ok-None-clause-granted : goal.returns-in-Ok-None-clause-granted
returns-in-Ok-None-clause-granted g c = λ grants.
    (rw c.in-Ok-None.field-0-is at c.in-Ok-None.ensures.answered)
    (c.requires.request, not_empty _ c.requires.unknown)

pub returns-in-Err-clause-granted : goal.returns-in-Err-clause-granted
returns-in-Err-clause-granted g c = λ grants.
    let whole : length c.args.request.now ≤ LENGTH_LIMIT =
    omega (arith, ap length c.as_bytes-bytes.ensures.bytes, c.as_bytes-bytes.ensures.limit) in
    let short = (refusal_has_room c.args.known.now c.args.request.now whole).short in
    c.in-Err.ensures.granted grants (omega (arith, short, ap length c.requires.empty))
