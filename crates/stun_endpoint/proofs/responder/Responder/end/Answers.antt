-- A response with room takes its end.
use Rattle.std.proofs.Common.{◌≡◌, ◌∙◌, ◌≤◌, [], ap, arith, length, rules}
use Rattle.std.specs.Option.{option_map}
use Rattle.std.specs.Prelude.{unwrap_or}
use Rattle.std.specs.String.{string_bytes}
use Rattle.stun_types.specs.Limits.{TEXT_LIMIT}
use Rattle.stun_endpoint.specs.Ended.{finish_refusal}
use Rattle.stun_endpoint.proofs.RoomLemmas.{end_fits}
use Rattle.stun_endpoint.proofs.responder.Responder.end.Goals as goal

pub returns-in-Err-clause-granted : goal.returns-in-Err-clause-granted
returns-in-Err-clause-granted g c = λ grants room.
    let software = option_map string_bytes c.self.inside.software in
    let short : length (unwrap_or software []) ≤ TEXT_LIMIT = search rules in
    c.in-Err.ensures.granted grants
    (ap (λ ending. finish_refusal ending c.args.page.bytes) c.new.ensures
    ∙ end_fits software c.args.signature.now c.args.has_fingerprint c.args.page.bytes room short)
