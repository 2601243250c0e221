-- One outstanding request less.
use Rattle.std.proofs.Common.{◌≡◌, ◌∙◌, ap, sym, true}
use Rattle.stun_client_requests.specs.Numbers.{is_outstanding_at}
use Rattle.stun_client_requests.proofs.IndexLemmas.{removed_one, removed_so}
use Rattle.stun_client_requests.proofs.numbers.Numbers.remove.Goals as goal

pub overflow_sub-self : goal.overflow_sub-self
overflow_sub-self g c =
    removed_one c.args.number c.self.inside.known.entries _ _ _ _ c.self.inside.outstanding
    c.self.invariant (ap (λ s. is_outstanding_at c.args.number s) c.self.view_is ∙ c.requires)

pub invariant_of-self : goal.invariant_of-self
invariant_of-self g c =
    removed_so c.args.number c.self.inside.known.entries c.remove.new.self.entries
    c.self.inside.unsent.keys c.remove-2.new.self.keys _ _ _ c.self.inside.outstanding
    c.self.invariant (ap (λ s. is_outstanding_at c.args.number s) c.self.view_is ∙ c.requires)
    c.remove.ensures.entries c.remove.ensures.updates.0 c.remove-2.ensures.updates.0
