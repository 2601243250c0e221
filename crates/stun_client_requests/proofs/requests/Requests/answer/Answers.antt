-- The request leaves the table, and its number has ended.
use Rattle.std.proofs.Common.{◌≡◌, ◌∙◌, None, Some, ap, refl, sym}
use Rattle.std.specs.Option.{option_map}
use Rattle.stun_client_requests.specs.Requests.{number_at}
use Rattle.stun_client_requests.specs.declared.numbers.Known.TheVariants.{Ended}
use Rattle.stun_client_requests.proofs.RequestLemmas.{attached_answer, one_out}
use Rattle.stun_client_requests.proofs.requests.Requests.answer.Goals as goal

pub returns-in_err-_bytes-clause-after : goal.returns-in_err-_bytes-clause-after
returns-in_err-_bytes-clause-after g c =
    let some = c.self.invariant.timed c.args.number c.in_ok-id.id (sym c.in_ok-id.ensures) in
    let none : number_at c.in_ok-id.id c.self.inside.table.attached ≡ None =
    ap (λ o. option_map (λ r. r.number) o) (sym c.in_err-_bytes.ensures.datum) in
    cc

pub invariant_of-self-2 : goal.invariant_of-self-2
invariant_of-self-2 g c =
    one_out c.self.inside.table.attached c.answer.new.self.attached c.self.inside.numbers
    c.end.new.self
    c.self.inside.next c.in_ok-id.id c.args.number (Some (Ended c.args.end)) c.self.invariant
    (sym c.in_ok-id.ensures)
    (ap (λ t. t.attached) c.answer.ensures.after
    ∙ attached_answer c.self.inside.table c.in_ok-id.id c.args.count c.args.moment _
    c.in_ok-_bytes.ensures.bytes)
    refl c.end.ensures.changed
