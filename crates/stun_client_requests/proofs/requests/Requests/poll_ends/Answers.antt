-- An end is handed out, or the numbers stay as they were.
use Rattle.std.proofs.Common.{◌≡◌, ◌∙◌, None, Some, ap, refl, sym}
use Rattle.std.proofs.Common.{subst}
use Rattle.stun_client_requests.specs.Requests.{ends_step, over_step}
use Rattle.stun_client_requests.specs.OneTable.{IsOneTable}
use Rattle.stun_client_requests.proofs.RequestLemmas.{all_of, ends_none}
use Rattle.stun_client_requests.proofs.requests.Requests.poll_ends.Goals as goal

pub invariant_of-self-in-None : goal.invariant_of-self-in-None
invariant_of-self-in-None g c =
    subst (λ s. IsOneTable c.self.inside.table.attached s c.self.inside.next)
    (sym c.in-None.ensures.same) c.self.invariant

pub returns-in-None : goal.returns-in-None
returns-in-None g c =
    c.poll_timers.ensures
    ∙ ap (λ s. over_step c.args.now (all_of c.self.inside.table s c.self.inside.next))
    c.in-None.ensures.same
    ∙ ends_none c.args.now (all_of c.self.inside.table c.self.inside.numbers c.self.inside.next)
    c.in-None.ensures.ended
    ∙ ap (λ r. ends_step c.args.now r) c.self.view_is
