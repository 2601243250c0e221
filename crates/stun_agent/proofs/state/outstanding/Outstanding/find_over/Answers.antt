-- What is decided on the root holds of the requests below it.
use Rattle.std.proofs.Common.{ℕ, ◌≡◌, ◌≤◌, ◌+◌, Bool, true, ap, refl, subst, ◌∙◌}
use Rattle.std.specs.Option.{option_map, option_map_or, is_some}
use Rattle.std.specs.Prelude.{Option, Some, None, IfOk}
use Rattle.std.proofs.lemmas.Result.{IfOk-weaker}
use Rattle.stun_base.specs.declared.wire.transport.TransportType.{TransportType}
use Rattle.stun_agent.specs.Deadlines.{early_requests}
use Rattle.stun_agent.specs.Transactions.{Transaction, Transactions, at, first_over}
use Rattle.stun_agent.specs.code.Transactions.{Outstanding, id_and_repeats}
use Rattle.stun_agent.specs.code.Tree.{items}
use Rattle.stun_agent.proofs.LookupLemmas.{found_there}
use Rattle.stun_agent.proofs.state.outstanding.Outstanding.find_over.Goals as goal

-- what ends is there
ended_there : (transport : TransportType) (now : ℕ) (all : Transactions) (ended : ℕ × Bool)
    → Some ended ≡ option_map id_and_repeats (first_over transport now all)
    → is_some (at ended.0 all) ≡ true
ended_there transport now all ended is = by (first_over transport now all) refl is
  where
    by : (o : Option (ℕ × Transaction)) → first_over transport now all ≡ o
        → Some ended ≡ option_map id_and_repeats o → is_some (at ended.0 all) ≡ true
    by None found h = cc
    by (Some e) found h =
        let key : ended.0 ≡ e.0 = ap (λ o. option_map_or (λ (y : ℕ × Bool). y.0) o 0) h in
        ap (λ k. is_some (at k all)) key ∙ ap is_some (found_there _ all e found).1

pub returns-clause-there : goal.returns-clause-there
returns-clause-there g c =
    let inside = c.self.inside in
    subst (λ (o : Outstanding _).
    IfOk c.decide.result (λ ended. is_some (at ended.0 o.requests) ≡ true)) c.self.view_is
    (IfOk-weaker c.decide.result _ _
    (λ ended. ended_there inside.transport c.args.now (items inside.root) ended)
    (c.decide.ensures.over inside.transport c.self.invariant))

pub returns-clause-work : goal.returns-clause-work
returns-clause-work g c =
    subst (λ (o : Outstanding _). c.decide.new.reads.entries
    ≤ c.args.reads.now.entries + early_requests o.transport c.args.now o.requests)
    c.self.view_is (c.decide.ensures.work c.self.inside.transport c.self.invariant)

pub returns-clause-looks : goal.returns-clause-looks
returns-clause-looks g c = c.decide.ensures.looks c.self.inside.transport c.self.invariant
