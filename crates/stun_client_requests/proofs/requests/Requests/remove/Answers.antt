-- The request leaves the table and the numbers.
use Rattle.std.proofs.Common.{◌≡◌, ◌∙◌, None, ap, refl, sym}
use Rattle.std.specs.Option.{option_map}
use Rattle.stun_client_requests.specs.Requests.{number_at}
use Rattle.stun_client_requests.proofs.IndexLemmas.{open_at}
use Rattle.stun_client_requests.proofs.RequestLemmas.{attached_cancel, one_out}
use Rattle.stun_client_requests.proofs.requests.Requests.remove.Goals as goal

pub returns-in_err-_bytes-clause-after : goal.returns-in_err-_bytes-clause-after
returns-in_err-_bytes-clause-after g c =
    let some = c.self.invariant.timed c.args.number c.in_ok-id.id (sym c.in_ok-id.ensures) in
    let none : number_at c.in_ok-id.id c.self.inside.table.attached ≡ None =
    ap (λ o. option_map (λ r. r.number) o) (sym c.in_err-_bytes.ensures.datum) in
    cc

pub remove-requires : goal.remove-requires
remove-requires g c =
    open_at c.args.number c.in_ok-id.id c.self.inside.numbers (sym c.in_ok-id.ensures)

pub invariant_of-self-2 : goal.invariant_of-self-2
invariant_of-self-2 g c =
    one_out c.self.inside.table.attached c.cancel.new.self.attached c.self.inside.numbers
    c.remove.new.self
    c.self.inside.next c.in_ok-id.id c.args.number None c.self.invariant
    (sym c.in_ok-id.ensures)
    (ap (λ t. t.attached) c.cancel.ensures.after
    ∙ attached_cancel c.self.inside.table c.in_ok-id.id _
    c.in_ok-_bytes.ensures.bytes)
    refl c.remove.ensures.changed
