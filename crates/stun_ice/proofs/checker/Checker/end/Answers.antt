-- A page with room takes its end.
use Rattle.stun_ice.proofs.RoomLemmas.{answer_ends}
use Rattle.stun_ice.proofs.checker.Checker.end.Goals as goal

pub returns-clause-granted : goal.returns-clause-granted
returns-clause-granted g c = λ grants is_open short.
    c.finish_with_fingerprint.ensures.granted grants
    (answer_ends c.args.self.now c.args.signature c.args.page.bytes c.add_signature.new.page.bytes
    c.in_ok-add_signature.ensures.bytes is_open short)
