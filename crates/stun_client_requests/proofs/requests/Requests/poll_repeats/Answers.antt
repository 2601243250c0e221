-- The table passes its slots, and no request changes its number.
use Rattle.std.proofs.Common.{◌≡◌, ◌∙◌, None, Some, ap, refl, sym}
use Rattle.stun_client_requests.specs.Requests.{ends_step, repeats_step}
use Rattle.stun_client_requests.specs.declared.requests.Polled.TheVariants.{Transmit}
use Rattle.stun_client_requests.proofs.RequestLemmas.{all_of, repeats_none, repeats_some}
use Rattle.stun_client_requests.proofs.requests.Requests.poll_repeats.Goals as goal

pub returns-in-Some : goal.returns-in-Some
returns-in-Some g c =
    ap (λ t. (Transmit c.in-Some.number, all_of t c.self.inside.numbers c.self.inside.next))
    c.take_repeated.ensures.after
    ∙ repeats_some c.args.now c.in-Some.number
    (all_of c.self.inside.table c.self.inside.numbers c.self.inside.next) c.in-Some.ensures.number
    ∙ ap (λ r. repeats_step c.args.now r) c.self.view_is

pub returns-in-None : goal.returns-in-None
returns-in-None g c =
    c.poll_ends.ensures
    ∙ ap (λ t. ends_step c.args.now (all_of t c.self.inside.numbers c.self.inside.next))
    c.take_repeated.ensures.after
    ∙ repeats_none c.args.now
    (all_of c.self.inside.table c.self.inside.numbers c.self.inside.next) c.in-None.ensures.number
    ∙ ap (λ r. repeats_step c.args.now r) c.self.view_is
