-- Each turn passes one address more, and at the end those before the one to go on at were passed.
use Rattle.std.proofs.Common.{◌≡◌, Option, Some, None, rules, sym, ◌∙◌, subst}
use Rattle.std.specs.declared.net.socket_addr.SocketAddr.{SocketAddr}
use Rattle.stun_auth.specs.ForgettingSteps.{is_looked_at, places_kept_where, start_of}
use Rattle.stun_auth.proofs.KeptPlaces.{kept_if}
use Rattle.stun_auth.proofs.SteppingLemmas.{begun_left, begun_next, begun_within}
use Rattle.stun_auth.proofs.SteppingLemmas.{left_last, left_more, next_last}
use Rattle.stun_auth.proofs.SteppingLemmas.{next_more, next_none, still_within}
use Rattle.stun_auth.proofs.server.places.Places.forget_expired_within.Goals as goal

pub loop-looked-init : goal.loop-looked-init
loop-looked-init g c = record {
  left = begun_left c.args.from _ c.args.now c.args.self.now.seen c.start_at-start.ensures;
  within = begun_within c.args.from _ c.start_at-start.ensures;
  next = begun_next c.args.from _ c.args.most c.args.self.now.seen c.start_at-start.ensures;
}

pub loop-looked-preserved : goal.loop-looked-preserved
loop-looked-preserved g c = record {
  left = left_more (start_of c.args.from) c.loop-looked.start c.args.now c.args.self.now.seen
      c.loop-looked.self.seen _ c.in_ok-first.first.address c.loop-looked.invariant.left
      c.loop-looked.invariant.within c.in_ok-first.ensures.first
      (c.forget_if.ensures
      ∙ kept_if c.in_ok-first.first.address c.args.now c.loop-looked.self.seen
      c.in_ok-first.first.has_expired c.in_ok-first.ensures.expired);
  within =
      still_within (start_of c.args.from) c.loop-looked.start c.in_ok-first.first.address
      c.in_ok-first.ensures.first.1 c.loop-looked.invariant.within;
  next = next_more (start_of c.args.from) c.loop-looked.start c.args.now c.args.self.now.seen
      c.loop-looked.self.seen c.in_ok-first.first.address _ c.args.most c.loop-looked._looked
      (search rules) c.loop-looked.invariant.left c.in_ok-first.ensures.first
      c.loop-looked.invariant.next;
}

pub returns-in_err-first-clause-next : goal.returns-in_err-first-clause-next
returns-in_err-first-clause-next g c =
    c.from_residual.ensures
    ∙ next_none (start_of c.args.from) c.loop-looked.start c.args.now c.args.self.now.seen
    c.loop-looked.self.seen _ c.args.most c.loop-looked._looked (search rules)
    c.loop-looked.invariant.left c.in_err-first.ensures.first c.loop-looked.invariant.next

pub returns-in_err-first-clause-state : goal.returns-in_err-first-clause-state
returns-in_err-first-clause-state g c =
    subst (λ (o : Option SocketAddr). c.loop-looked.self.seen
    ≡ places_kept_where (is_looked_at c.args.from o) c.args.now c.args.self.now.seen)
    (sym c.from_residual.ensures)
    (left_last c.args.from c.loop-looked.start c.args.now c.args.self.now.seen c.loop-looked.self.seen None
    c.loop-looked.invariant.left c.in_err-first.ensures.first)

pub returns-clause-next : goal.returns-clause-next
returns-clause-next g c =
    next_last (start_of c.args.from) c.loop-looked.start c.args.now c.args.self.now.seen
    c.loop-looked.self.seen _ _ c.args.most c.loop-looked._looked (search rules)
    c.loop-looked.invariant.left c.in_ok-next.ensures.first c.loop-looked.invariant.next

pub returns-clause-state : goal.returns-clause-state
returns-clause-state g c =
    left_last c.args.from c.loop-looked.start c.args.now c.args.self.now.seen c.loop-looked.self.seen
    (Some c.in_ok-next.next.address) c.loop-looked.invariant.left c.in_ok-next.ensures.first

pub returns-in_err-next-clause-next : goal.returns-in_err-next-clause-next
returns-in_err-next-clause-next g c =
    c.from_residual-in_err-next.ensures
    ∙ next_last (start_of c.args.from) c.loop-looked.start c.args.now c.args.self.now.seen
    c.loop-looked.self.seen None _ c.args.most c.loop-looked._looked (search rules)
    c.loop-looked.invariant.left c.in_err-next.ensures.first c.loop-looked.invariant.next

pub returns-in_err-next-clause-state : goal.returns-in_err-next-clause-state
returns-in_err-next-clause-state g c =
    subst (λ (o : Option SocketAddr). c.loop-looked.self.seen
    ≡ places_kept_where (is_looked_at c.args.from o) c.args.now c.args.self.now.seen)
    (sym c.from_residual-in_err-next.ensures)
    (left_last c.args.from c.loop-looked.start c.args.now c.args.self.now.seen c.loop-looked.self.seen None
    c.loop-looked.invariant.left c.in_err-next.ensures.first)
