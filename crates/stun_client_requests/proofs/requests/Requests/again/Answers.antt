-- The request has another transaction ID, and its former message leaves the table.
use Rattle.std.proofs.Common.{◌≡◌, ◌∙◌, Some, ap, refl, subst, sym}
use Rattle.stun_client_requests.specs.Numbers.{IsAt}
use Rattle.std.specs.Option.{is_some}
use Rattle.stun_client_requests.specs.Requests.{datum_of, number_at}
use Rattle.stun_client_requests.specs.declared.numbers.Known.TheVariants.{Outstanding}
use Rattle.stun_client_requests.proofs.RequestLemmas.{all_of, attached_answer, former_datum}
use Rattle.stun_client_requests.proofs.RequestLemmas.{former_kept, former_there, no_number, one_again}
use Rattle.stun_client_requests.proofs.RequestLemmas.{some_number}
use Rattle.stun_client_requests.proofs.requests.Requests.again.Goals as goal

pub invariant_of-self-in_default-answer : goal.invariant_of-self-in_default-answer
invariant_of-self-in_default-answer g c =
    absurd
    (former_kept c.self.inside.table.attached c.send.new.self.attached c.args.id c.in-Some.former
    c.args.number _
    (c.self.invariant.timed c.args.number c.in-Some.former (sym c.in-Some.ensures))
    (no_number c.self.inside.table c.args.id c.has.ensures.table
    (sym c.if-has.false ∙ c.has.ensures.has))
    (ap (λ t. t.attached) c.in-Ok-send.ensures.ok) c.in_default-answer.ensures.datum)

pub returns-in_default-answer-clause-refused : goal.returns-in_default-answer-clause-refused
returns-in_default-answer-clause-refused g c =
    absurd
    (former_kept c.self.inside.table.attached c.send.new.self.attached c.args.id c.in-Some.former
    c.args.number _
    (c.self.invariant.timed c.args.number c.in-Some.former (sym c.in-Some.ensures))
    (no_number c.self.inside.table c.args.id c.has.ensures.table
    (sym c.if-has.false ∙ c.has.ensures.has))
    (ap (λ t. t.attached) c.in-Ok-send.ensures.ok) c.in_default-answer.ensures.datum)

pub returns-in_default-answer-clause-same : goal.returns-in_default-answer-clause-same
returns-in_default-answer-clause-same g c =
    absurd
    (former_kept c.self.inside.table.attached c.send.new.self.attached c.args.id c.in-Some.former
    c.args.number _
    (c.self.invariant.timed c.args.number c.in-Some.former (sym c.in-Some.ensures))
    (no_number c.self.inside.table c.args.id c.has.ensures.table
    (sym c.if-has.false ∙ c.has.ensures.has))
    (ap (λ t. t.attached) c.in-Ok-send.ensures.ok) c.in_default-answer.ensures.datum)

pub returns-in_default-answer-clause-granted : goal.returns-in_default-answer-clause-granted
returns-in_default-answer-clause-granted g c grants none =
    absurd
    (former_kept c.self.inside.table.attached c.send.new.self.attached c.args.id c.in-Some.former
    c.args.number _
    (c.self.invariant.timed c.args.number c.in-Some.former (sym c.in-Some.ensures))
    (no_number c.self.inside.table c.args.id c.has.ensures.table
    (sym c.if-has.false ∙ c.has.ensures.has))
    (ap (λ t. t.attached) c.in-Ok-send.ensures.ok) c.in_default-answer.ensures.datum)

pub invariant_of-self-2 : goal.invariant_of-self-2
invariant_of-self-2 g c =
    one_again c.self.inside.table.attached c.send.new.self.attached c.answer.new.self.attached
    c.self.inside.numbers c.rename.new.self c.self.inside.next c.args.id c.in-Some.former c.args.number
    _ c.self.invariant (sym c.in-Some.ensures)
    (no_number c.self.inside.table c.args.id c.has.ensures.table
    (sym c.if-has.false ∙ c.has.ensures.has))
    refl (ap (λ t. t.attached) c.in-Ok-send.ensures.ok)
    (ap (λ t. t.attached) c.answer.ensures.after
    ∙ attached_answer c.send.new.self c.in-Some.former _ _ _ c.in-Some-answer.ensures.bytes)
    (subst (λ es. IsAt c.args.number (Some (Outstanding c.args.id)) es c.rename.new.self.known)
    (ap (λ s. s.known) c.in-Ok.ensures.after) c.rename.ensures.changed)

pub returns-clause-former : goal.returns-clause-former
returns-clause-former g c =
    sym (ap (λ r. datum_of c.args.number r) c.self.view_is)
    ∙ former_datum (all_of c.self.inside.table c.self.inside.numbers c.self.inside.next) c.args.number
    c.in-Some.former c.in-Some-answer.ended.1 (sym c.in-Some.ensures)
    (sym (former_there c.self.inside.table.attached c.send.new.self.attached c.args.id
    c.in-Some.former c.args.number _
    (c.self.invariant.timed c.args.number c.in-Some.former (sym c.in-Some.ensures))
    (no_number c.self.inside.table c.args.id c.has.ensures.table
    (sym c.if-has.false ∙ c.has.ensures.has))
    (ap (λ t. t.attached) c.in-Ok-send.ensures.ok))
    ∙ sym c.in-Some-answer.ensures.datum)

pub returns-then-has-clause-taken : goal.returns-then-has-clause-taken
returns-then-has-clause-taken g c =
    λ taken. ap (λ r. is_some (number_at c.args.id r.table.attached))
    (sym c.self.view_is)
    ∙ some_number c.self.inside.table c.args.id c.has.ensures.table (sym c.has.ensures.has ∙ c.if-has.true)
