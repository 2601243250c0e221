-- What stays of a transaction while slots pass.
use Rattle.std.proofs.Common.{ℕ, ◌≡◌, Bool, true, false, cond, length, refl, ap, sym, subst, ◌∙◌}
use Rattle.std.specs.Prelude.{Option, Some, None, IfSome}
use Rattle.std.specs.List.Sorted.{IsStrictlySortedBy}
use Rattle.std.specs.Map.{keys_of}
use Rattle.std.specs.Option.{option_map}
use Rattle.std.specs.Ordering.{nat_cmp}
use Rattle.stun_base.specs.declared.wire.transport.TransportType.{TransportType}
use Rattle.stun_agent.specs.Transactions.{Transaction, Transactions, at, slot_passed}
use Rattle.stun_agent.specs.Transactions.{after_slot, after_slots, next_sent}
use Rattle.stun_agent.specs.code.Transactions.{contents}
use Rattle.stun_agent.proofs.EntryLemmas.{lookup_found, lookup-map_entries}

contents-choice : (b : Bool) (now : ℕ) (t : Transaction)
    → contents (cond b (after_slot now t) t) ≡ contents t
contents-choice true now t = refl
contents-choice false now t = refl

-- the transaction that is sent keeps what is sent of it
pub kept_contents : (transport : TransportType) (now : ℕ) (all new : Transactions)
    (result : Option (ℕ × ℕ)) → IsStrictlySortedBy nat_cmp (keys_of all)
    → result ≡ option_map (λ e. (e.0, length e.1.bytes)) (next_sent transport now all)
    → new ≡ after_slots transport now (option_map (λ e. e.0) (next_sent transport now all)) all
    → IfSome result (λ s. option_map contents (at s.0 new)
    ≡ option_map (λ e. contents e.1) (next_sent transport now all))
kept_contents transport now all new result s is after =
    subst (λ r. IfSome r (λ s. option_map contents (at s.0 new)
    ≡ option_map (λ e. contents e.1) (next_sent transport now all))) (sym is)
    (by (next_sent transport now all) refl)
  where
    by : (found : Option (ℕ × Transaction)) → next_sent transport now all ≡ found
        → IfSome {T = ℕ × ℕ}
        (option_map {U = ℕ × ℕ} (λ (e : ℕ × Transaction). (e.0, length e.1.bytes)) found)
        (λ s. option_map contents (at s.0 new)
        ≡ option_map (λ e. contents e.1) (next_sent transport now all))
    by None h = tt
    by (Some (k, t)) h =
        let same : new ≡ after_slots transport now (Some k) all =
        after ∙ ap (λ o. after_slots transport now (option_map (λ e. e.0) o) all) h in
        let found = lookup_found _ all k t s h in
        ap (λ es. option_map contents (at k es)) same
        ∙ ap (option_map contents)
        (lookup-map_entries (slot_passed transport now (Some k)) k all t found)
        ∙ ap Some (contents-choice _ now t) ∙ sym (ap (option_map (λ e. contents e.1)) h)
