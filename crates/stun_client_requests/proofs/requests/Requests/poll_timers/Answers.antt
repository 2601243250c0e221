-- A request whose time is over is outstanding, and it leaves the table and the numbers.
use Rattle.std.proofs.Common.{◌≡◌, ◌∙◌, None, Some, ap, refl, sym}
use Rattle.std.specs.Option.{option_map}
use Rattle.stun_client_requests.proofs.IndexLemmas.{open_at}
use Rattle.stun_client_requests.proofs.RequestLemmas.{attached_over, one_out}
use Rattle.stun_client_requests.proofs.requests.Requests.poll_timers.Goals as goal

pub remove-requires : goal.remove-requires
remove-requires g c =
    open_at c.in-Ok.over.1.number c.in-Ok.over.0 c.self.inside.numbers
    (c.self.invariant.named c.in-Ok.over.0 c.in-Ok.over.1.number
    (ap (λ o. option_map (λ r. r.number) o) c.in-Ok.ensures.datum))

pub invariant_of-self : goal.invariant_of-self
invariant_of-self g c =
    one_out c.self.inside.table.attached c.poll.new.self.attached c.self.inside.numbers
    c.remove.new.self c.self.inside.next c.in-Ok.over.0 c.in-Ok.over.1.number None c.self.invariant
    (c.self.invariant.named c.in-Ok.over.0 c.in-Ok.over.1.number
    (ap (λ o. option_map (λ r. r.number) o) c.in-Ok.ensures.datum))
    (ap (λ t. t.attached) c.poll.ensures.after
    ∙ attached_over c.self.inside.table c.args.now c.in-Ok.over.0 c.in-Ok.ensures.ended)
    refl c.remove.ensures.changed
