-- One outstanding request less, and one more that has ended. There was room for it in the heap.
use Rattle.std.proofs.Common.{◌≡◌, ◌∙◌, IsOk, ap, sym, subst, true, refl, arith}
use Rattle.stun_client_requests.specs.Numbers.{is_outstanding_at}
use Rattle.stun_client_requests.proofs.IndexLemmas.{ended_so, removed_one}
use Rattle.stun_client_requests.proofs.numbers.Numbers.end.Goals as goal

pub invariant_of-self-in_default-push : goal.invariant_of-self-in_default-push
invariant_of-self-in_default-push g c =
    let some = removed_one c.args.number c.self.inside.known.entries _ _ _ _
    c.self.inside.outstanding
    c.self.invariant (ap (λ s. is_outstanding_at c.args.number s) c.self.view_is ∙ c.requires) in
    let fits = c.self.invariant.fits in
    let wrong = subst (λ r. IsOk r) c.in_default-push.is (c.push.ensures.succeeds (omega arith)) in
    cc

pub overflow_sub-self : goal.overflow_sub-self
overflow_sub-self g c =
    removed_one c.args.number c.self.inside.known.entries _ _ _ _ c.self.inside.outstanding
    c.self.invariant (ap (λ s. is_outstanding_at c.args.number s) c.self.view_is ∙ c.requires)

pub invariant_of-self-2 : goal.invariant_of-self-2
invariant_of-self-2 g c =
    ended_so c.args.number c.args.end c.self.inside.known.entries c.insert.new.self.entries
    c.self.inside.unsent.keys c.remove.new.self.keys _ _ _ _ _ _ c.self.inside.outstanding
    c.len-stored.ensures.ordered c.self.invariant
    (ap (λ s. is_outstanding_at c.args.number s) c.self.view_is ∙ c.requires)
    c.in-Ok.ensures.entries c.in-Ok.ensures.updates.0 c.remove.ensures.updates.0 refl
    c.in-Ok-push.ensures.permutation c.in-Ok-push.ensures.heap_order c.in-Ok-push.ensures.len
    _ c.push.ensures.capacity
