-- The number that comes first in the heap is the first whose request has ended.
use Rattle.std.proofs.Common.{◌≡◌, ◌∙◌, Some, None, ap, sym, refl}
use Rattle.stun_client_requests.specs.Numbers.{end_of_first, first_ended, without_first}
use Rattle.stun_client_requests.proofs.IndexLemmas.{end_none, end_some, has_end}
use Rattle.stun_client_requests.proofs.NumberLemmas.{first_popped}
use Rattle.stun_client_requests.proofs.NumberLemmas.{none_popped}
use Rattle.stun_client_requests.proofs.IndexLemmas.{popped_so, seen, seen_same, without_none}
use Rattle.stun_client_requests.proofs.IndexLemmas.{without_some}
use Rattle.stun_client_requests.proofs.NumberLemmas.{taken_ended}
use Rattle.stun_client_requests.proofs.numbers.Numbers.take_ended.Goals as goal

pub returns-in_err-first-clause-after : goal.returns-in_err-first-clause-after
returns-in_err-first-clause-after g c =
    let none : first_ended c.args.self.now ≡ None =
    ap (λ s. first_ended s) (sym c.self.view_is)
    ∙ none_popped c.self.inside.known.entries _ c.len-stored.ensures.ordered c.self.invariant.listed
    (sym c.self.invariant.long ∙ c.in_err-first.ensures.none) in
    c.self.view_is ∙ sym (without_none c.args.self.now none)

pub invariant_of-self-2 : goal.invariant_of-self-2
invariant_of-self-2 g c =
    popped_so c.self.inside.known.entries c.take_end.new.known.entries c.self.inside.unsent.keys
    _ _ _ _ _ _ _ c.self.inside.outstanding c.self.invariant c.take_end.ensures.entries
    c.take_end.ensures.changed c.in_ok-first.ensures.permutation
    (c.in_ok-first.ensures.heap_order c.self.invariant.in_order).0 c.in_ok-first.ensures.len
    c.pop.ensures.capacity

pub returns-clause-ended : goal.returns-clause-ended
returns-clause-ended g c =
    let first = first_popped c.self.inside.known.entries _ _ _ c.len-stored.ensures.ordered
    c.self.invariant.listed c.in_ok-first.ensures.permutation
    (c.in_ok-first.ensures.heap_order c.self.invariant.in_order).1 in
    c.take_end.ensures.end
    ∙ end_some (seen c.self.inside.known.entries c.self.inside.unsent.keys) c.in_ok-first.first.0
    first
    ∙ ap (λ s. end_of_first s) c.self.view_is

pub returns-clause-after : goal.returns-clause-after
returns-clause-after g c =
    let first = first_popped c.self.inside.known.entries _ _ _ c.len-stored.ensures.ordered
    c.self.invariant.listed c.in_ok-first.ensures.permutation
    (c.in_ok-first.ensures.heap_order c.self.invariant.in_order).1 in
    seen_same _ _ _ _ c.take_end.ensures.entries refl
    ∙ sym (without_some (seen c.self.inside.known.entries c.self.inside.unsent.keys)
    c.in_ok-first.first.0 first)
    ∙ ap (λ s. without_first s) c.self.view_is

pub returns-clause-same : goal.returns-clause-same
returns-clause-same g c =
    has_end _ c.in_ok-first.first.0 c.take_end.result _ c.take_end.ensures.end
    (taken_ended c.self.inside.known.entries _ _ _ c.self.invariant.listed
    c.in_ok-first.ensures.permutation)
