-- The request is in the table, and outstanding under the next number.
use Rattle.std.proofs.Common.{◌≡◌, ◌∙◌, None, Some, ap, refl, sym}
use Rattle.stun_client_requests.proofs.RequestLemmas.{no_number, one_started}
use Rattle.stun_client_requests.proofs.requests.Requests.start.Goals as goal

pub invariant_of-self-2 : goal.invariant_of-self-2
invariant_of-self-2 g c =
    one_started c.self.inside.table.attached c.send.new.self.attached c.self.inside.numbers
    c.put.new.self c.self.inside.next c.args.id _ c.self.invariant refl
    (no_number c.self.inside.table c.args.id c.has.ensures.table (sym c.if-has.false ∙
    c.has.ensures.has))
    (ap (λ t. t.attached) c.in-Ok-send.ensures.ok) c.in-Ok.ensures.changed
