-- The page is that of the check to the peer.
use Rattle.std.proofs.Common.{◌≡◌, Some, sym, ◌∙◌, ap}
use Rattle.stun_ice.specs.Agent.{Agent, check_page}
use Rattle.stun_ice.proofs.checker.Checker.begin_check.Goals as goal

pub returns-in-Ok-clause-bytes : goal.returns-in-Ok-clause-bytes
returns-in-Ok-clause-bytes g c =
    let peer : c.args.self.now.peer ≡ Some c.in-Some.remote =
    sym (ap (λ (a : Agent). a.peer) c.self.view_is) ∙ c.in-Some.is in
    rw peer (c.in-Ok.ensures.bytes
    ∙ ap (check_page c.args.self.now c.in-Some.remote c.args.id c.args.priority)
    c.can_nominate-nominates.ensures)
