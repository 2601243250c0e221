-- Each request keeps its number.
use Rattle.std.proofs.Common.{◌≡◌, ◌∙◌, None, Some, ap, refl, sym}
use Rattle.stun_client_requests.proofs.RequestLemmas.{one_replaced}
use Rattle.stun_client_requests.proofs.requests.Requests.replace.Goals as goal

pub invariant_of-self : goal.invariant_of-self
invariant_of-self g c =
    one_replaced c.self.inside.table.attached c.replace_datum.new.self.attached
    c.self.inside.numbers
    c.self.inside.next c.in_ok-id.id c.args.number _ c.self.invariant (sym c.in_ok-id.ensures) refl
    (ap (λ t. t.attached) c.replace_datum.ensures.after)

pub invariant_of-self-2 : goal.invariant_of-self-2
invariant_of-self-2 g c =
    one_replaced c.self.inside.table.attached c.replace_datum.new.self.attached
    c.self.inside.numbers
    c.self.inside.next c.in_ok-id.id c.args.number _ c.self.invariant (sym c.in_ok-id.ensures) refl
    (ap (λ t. t.attached) c.replace_datum.ensures.after)
