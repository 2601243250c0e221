-- The request is still outstanding.
use Rattle.std.proofs.Common.{◌≡◌, ◌∙◌, ap}
use Rattle.stun_client_requests.specs.Numbers.{is_outstanding_at}
use Rattle.stun_client_requests.proofs.IndexLemmas.{renamed_so}
use Rattle.stun_client_requests.proofs.numbers.Numbers.rename.Goals as goal

pub invariant_of-self-2 : goal.invariant_of-self-2
invariant_of-self-2 g c =
    renamed_so c.args.number c.args.id c.self.inside.known.entries c.insert.new.self.entries
    c.self.inside.unsent.keys _ _ _ c.self.inside.outstanding c.len-stored.ensures.ordered
    c.self.invariant (ap (λ s. is_outstanding_at c.args.number s) c.self.view_is ∙ c.requires)
    c.in-Ok.ensures.entries c.in-Ok.ensures.updates.0
