-- One outstanding request more, or another ID of one.
use Rattle.std.proofs.Common.{◌≡◌, ◌∙◌, ◌+◌, ap, arith, sym, false, refl}
use Rattle.std.specs.BTreeMap.{is_at}
use Rattle.std.specs.Ordering.{nat_cmp}
use Rattle.std.specs.Set.{remove_key}
use Rattle.std.specs.Map.{remove_entry}
use Rattle.stun_client_requests.specs.Numbers.{is_ended_at, known_at}
use Rattle.stun_client_requests.specs.declared.numbers.Known.TheVariants.{Outstanding}
use Rattle.stun_client_requests.proofs.IndexLemmas.{new_is_open, none_unsent, old_is_open, put_so}
use Rattle.stun_client_requests.proofs.IndexLemmas.{seen_same}
use Rattle.stun_client_requests.proofs.NumberLemmas.{take_back, take_out}
use Rattle.stun_client_requests.proofs.numbers.Numbers.put.Goals as goal

pub returns-in_default-store-clause-same : goal.returns-in_default-store-clause-same
returns-in_default-store-clause-same g c =
    seen_same c.self.inside.known.entries c.store.new.known.entries c.self.inside.unsent.keys
    c.remove.new.self.keys c.in_default-store.ensures.same
    (c.remove.ensures.keys
    ∙ ap (λ ks. remove_key (is_at (nat_cmp c.args.number)) ks) c.in-Ok.ensures.keys
    ∙ take_back c.args.number c.self.inside.unsent.keys
    (none_unsent c.self.inside.known.entries c.args.number c.self.inside.unsent.keys
    c.self.invariant.sendable c.in_default-store.ensures.absent))
    ∙ c.self.view_is

pub invariant_of-self-then-is_new : goal.invariant_of-self-then-is_new
invariant_of-self-then-is_new g c =
    let none = ap (λ s. is_ended_at c.args.number s) c.self.view_is ∙ c.requires in
    put_so c.args.number c.args.id c.self.inside.known.entries c.store.new.known.entries
    c.self.inside.unsent.keys c.add.new.set.keys _ _ _ _ _ _ c.self.inside.outstanding
    (c.self.inside.outstanding + 1) c.len-stored.ensures.ordered c.self.invariant none
    c.in-Ok-store.ensures.entries c.in-Ok-store.ensures.changed c.in-Ok.ensures.updates.0
    c.room.ensures.items c.room.ensures.len
    (let none = new_is_open c.self.inside.known.entries c.args.number c.in-Ok-store.is_new
    c.in-Ok-store.ensures.new c.if-is_new.true in
    omega arith)
    c.in_ok-room.ensures.ok

pub invariant_of-self-else-is_new : goal.invariant_of-self-else-is_new
invariant_of-self-else-is_new g c =
    let none = ap (λ s. is_ended_at c.args.number s) c.self.view_is ∙ c.requires in
    put_so c.args.number c.args.id c.self.inside.known.entries c.store.new.known.entries
    c.self.inside.unsent.keys c.add.new.set.keys _ _ _ _ _ _ c.self.inside.outstanding
    c.self.inside.outstanding c.len-stored.ensures.ordered c.self.invariant none
    c.in-Ok-store.ensures.entries c.in-Ok-store.ensures.changed c.in-Ok.ensures.updates.0
    c.room.ensures.items c.room.ensures.len
    (let one = old_is_open c.self.inside.known.entries c.args.number c.in-Ok-store.is_new
    c.in-Ok-store.ensures.new c.if-is_new.false none in
    omega arith)
    c.in_ok-room.ensures.ok

pub returns-then-is_new-clause-back : goal.returns-then-is_new-clause-back
returns-then-is_new-clause-back g c =
    λ none.
    let free = ap (λ s. known_at c.args.number s.known) c.self.view_is ∙ none in
    seen_same c.self.inside.known.entries _ c.self.inside.unsent.keys _
    (ap (λ es. remove_entry (is_at (nat_cmp c.args.number)) es) c.in-Ok-store.ensures.entries
    ∙ take_out c.args.number (Outstanding c.args.id) c.self.inside.known.entries free)
    (ap (λ ks. remove_key (is_at (nat_cmp c.args.number)) ks) c.in-Ok.ensures.keys
    ∙ take_back c.args.number c.self.inside.unsent.keys
    (none_unsent c.self.inside.known.entries c.args.number c.self.inside.unsent.keys
    c.self.invariant.sendable free))
    ∙ c.self.view_is
