-- It waits for the user whom its claim names.
use Rattle.std.proofs.Common.{rules, ◌≡◌, Some, sym, ◌∙◌, ap}
use Rattle.stun_endpoint.specs.code.Found.{waiting_claim}
use Rattle.stun_endpoint.proofs.ReadyLemmas.{claim_is_awaited}
use Rattle.stun_endpoint.proofs.server.Server.find_awaited_user.Goals as goal

pub returns-in-Some-clause-user : goal.returns-in-Some-clause-user
returns-in-Some-clause-user g c =
    let s = c.args.self.now in
    let bytes = c.args.read.now in
    let waits : waiting_claim s c.args.from c.args.epoch bytes ≡ Some c.in-Some.claim =
    search rules in
    ap Some c.user.ensures
    ∙ sym (claim_is_awaited s c.args.from c.args.epoch bytes c.in-Some.claim waits)
