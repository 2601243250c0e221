-- The former message is kept and noted if there was memory for it.
use Rattle.std.proofs.Common.{◌∙◌, Option, ap, sym}
use Rattle.std.specs.Prelude.{◌&&◌}
use Rattle.stun_client.specs.Challenges.{Answered}
use Rattle.stun_client.specs.Standing.{answering}
use Rattle.stun_client_calls.specs.Messages.{TurnSeen}
use Rattle.stun_client_calls.proofs.ReceivingLemmas.{all_exchanged, exchanged_as, exchanged_at, ids_so}
use Rattle.stun_client_calls.proofs.endpoint.ClientEndpoint.exchange.Goals as goal

pub returns-in-Some-clause-exchanged : goal.returns-in-Some-clause-exchanged
returns-in-Some-clause-exchanged g c =
    exchanged_at c.args.self.now _ c.args.number c.args.former c.turn.inside.next_id
    c.turn.inside.id c.args.asked c.turned-asked.result.0 c.args.turn
    (record { is_kept = c.turned-asked.result.1; is_noted = c.note-is_noted.result })
    c.answer.new.self c.replace.new.self c.note-is_noted.new.earlier.entries
    c.self.view_is (ap (λ (t : TurnSeen). t.next_id) c.turn.view_is)
    (ap (λ (t : TurnSeen). t.id) c.turn.view_is)
    c.turned-asked.ensures.turned
    (c.answer.ensures
    ∙ ap (λ (o : Option Answered). answering c.self.inside.standing o)
    (sym c.in-Some.is ∙ c.turned-asked.ensures.answered))
    c.replace.ensures.after
    (ids_so (c.turned-asked.result.1 && c.note-is_noted.result) c.args.former c.turn.inside.id c.args.number
    c.self.inside.earlier.entries c.remove.new.self.entries c.note-is_noted.new.earlier.entries
    c.remove.ensures.entries c.note-is_noted.ensures.noted)

pub returns-in_default-clause-exchanged : goal.returns-in_default-clause-exchanged
returns-in_default-clause-exchanged g c =
    exchanged_at c.args.self.now _ c.args.number c.args.former c.turn.inside.next_id
    c.turn.inside.id c.args.asked c.turned-asked.result.0 c.args.turn
    (record { is_kept = c.turned-asked.result.1; is_noted = c.note-is_noted.result })
    c.self.inside.standing c.replace.new.self c.note-is_noted.new.earlier.entries
    c.self.view_is (ap (λ (t : TurnSeen). t.next_id) c.turn.view_is)
    (ap (λ (t : TurnSeen). t.id) c.turn.view_is)
    c.turned-asked.ensures.turned
    (ap (λ (o : Option Answered). answering c.self.inside.standing o)
    (sym c.in_default.is ∙ c.turned-asked.ensures.answered))
    c.replace.ensures.after
    (ids_so (c.turned-asked.result.1 && c.note-is_noted.result) c.args.former c.turn.inside.id c.args.number
    c.self.inside.earlier.entries c.remove.new.self.entries c.note-is_noted.new.earlier.entries
    c.remove.ensures.entries c.note-is_noted.ensures.noted)

pub returns-in-Some-clause-granted : goal.returns-in-Some-clause-granted
returns-in-Some-clause-granted g c =
    λ grants.
    all_exchanged c.args.number c.args.former c.args.asked c.args.turn c.args.self.now _
    c.turned-asked.result.1 c.note-is_noted.result (c.turned-asked.ensures.granted grants)
    (c.note-is_noted.ensures.granted grants (c.turned-asked.ensures.granted grants))
    (exchanged_as c.args.self.now _ c.args.number c.args.former c.turn.inside.next_id
    c.turn.inside.id c.args.asked c.turned-asked.result.0 c.args.turn
    (record { is_kept = c.turned-asked.result.1; is_noted = c.note-is_noted.result })
    c.answer.new.self c.replace.new.self c.note-is_noted.new.earlier.entries
    c.self.view_is (ap (λ (t : TurnSeen). t.next_id) c.turn.view_is)
    (ap (λ (t : TurnSeen). t.id) c.turn.view_is)
    c.turned-asked.ensures.turned
    (c.answer.ensures
    ∙ ap (λ (o : Option Answered). answering c.self.inside.standing o)
    (sym c.in-Some.is ∙ c.turned-asked.ensures.answered))
    c.replace.ensures.after
    (ids_so (c.turned-asked.result.1 && c.note-is_noted.result) c.args.former c.turn.inside.id c.args.number
    c.self.inside.earlier.entries c.remove.new.self.entries c.note-is_noted.new.earlier.entries
    c.remove.ensures.entries c.note-is_noted.ensures.noted))

pub returns-in_default-clause-granted : goal.returns-in_default-clause-granted
returns-in_default-clause-granted g c =
    λ grants.
    all_exchanged c.args.number c.args.former c.args.asked c.args.turn c.args.self.now _
    c.turned-asked.result.1 c.note-is_noted.result (c.turned-asked.ensures.granted grants)
    (c.note-is_noted.ensures.granted grants (c.turned-asked.ensures.granted grants))
    (exchanged_as c.args.self.now _ c.args.number c.args.former c.turn.inside.next_id
    c.turn.inside.id c.args.asked c.turned-asked.result.0 c.args.turn
    (record { is_kept = c.turned-asked.result.1; is_noted = c.note-is_noted.result })
    c.self.inside.standing c.replace.new.self c.note-is_noted.new.earlier.entries
    c.self.view_is (ap (λ (t : TurnSeen). t.next_id) c.turn.view_is)
    (ap (λ (t : TurnSeen). t.id) c.turn.view_is)
    c.turned-asked.ensures.turned
    (ap (λ (o : Option Answered). answering c.self.inside.standing o)
    (sym c.in_default.is ∙ c.turned-asked.ensures.answered))
    c.replace.ensures.after
    (ids_so (c.turned-asked.result.1 && c.note-is_noted.result) c.args.former c.turn.inside.id c.args.number
    c.self.inside.earlier.entries c.remove.new.self.entries c.note-is_noted.new.earlier.entries
    c.remove.ensures.entries c.note-is_noted.ensures.noted))
