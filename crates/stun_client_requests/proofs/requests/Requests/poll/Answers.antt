-- The bytes of a request are handed out, or the numbers stay as they were.
use Rattle.std.proofs.Common.{◌≡◌, ◌∙◌, None, Some, ap, refl, sym}
use Rattle.stun_client_requests.specs.Numbers.{first_unsent}
use Rattle.stun_client_requests.specs.Requests.{polled, repeats_step, unsent_or}
use Rattle.stun_client_requests.proofs.IndexLemmas.{unsent_none}
use Rattle.stun_client_requests.proofs.RequestLemmas.{all_of, unsent_first}
use Rattle.stun_client_requests.proofs.requests.Requests.poll.Goals as goal

pub returns-in-None : goal.returns-in-None
unfolding polled
returns-in-None g c =
    c.poll_repeats.ensures
    ∙ ap (λ s. repeats_step c.args.now (all_of c.self.inside.table s c.self.inside.next))
    (c.in-None.ensures.after ∙ unsent_none c.self.inside.numbers c.in-None.ensures.first)
    ∙ unsent_first c.args.now
    (all_of c.self.inside.table c.self.inside.numbers c.self.inside.next) c.in-None.ensures.first
    ∙ ap (λ r. unsent_or c.args.now r (first_unsent r.numbers)) c.self.view_is
