-- A 401 has a code that is allowed and room, so only memory can refuse it.
use Rattle.std.proofs.Common.{◌≡◌, [], ◌∷◌, length, Option, Some, None}
use Rattle.std.proofs.Common.{sym, ◌∙◌, ap, arith, Ok, Err, MatchOption}
use Rattle.stun_base.specs.Attributes.{ERROR_CODE}
use Rattle.stun_base.specs.Header.{transaction_id_field}
use Rattle.stun_base.specs.MessageType.{type_number}
use Rattle.stun_base.specs.declared.wire.error.StunWriteError.{StunWriteError}
use Rattle.stun_base.specs.declared.wire.message_type.MessageClass.TheVariants as Class
use Rattle.stun_types.specs.ErrorCode.{CodeAndReason, error_refusal, error_value}
use Rattle.stun_types.specs.Grammar.{spelled_message}
use Rattle.stun_types.specs.WriteVec.{Written}
use Rattle.stun_judging.specs.Additions.{UnlessMemory}
use Rattle.stun_judging.specs.Reading.{UNAUTHORIZED}
use Rattle.stun_proto.specs.Negotiation.{failure}
use Rattle.stun_proto.specs.code.Signed.{written_message}
use Rattle.stun_proto.proofs.meetings.Typed.{by_reason, not_refused, only_memory}
use Rattle.stun_proto.proofs.replay.negotiation.messages.make_unauthorized.Goals as goal

none-some : {e : StunWriteError} → None ≡ Some e → ⊥
none-some h = cc

refused_none : (o : Option StunWriteError) (P : Type 0) (Q : StunWriteError → Type 0) → o ≡ None
    → MatchOption o P Q → P
refused_none None P Q is h = h
refused_none (Some e) P Q is h = absurd (none-some (sym is))

pub returns-in_err-error-clause-answer : goal.returns-in_err-error-clause-answer
returns-in_err-error-clause-answer g c =
    absurd (none-some (ap error_refusal (sym c.builder.ensures) ∙ c.in_err-error.ensures.refused))

pub returns-in_err-writer-clause-answer : goal.returns-in_err-writer-clause-answer
returns-in_err-writer-clause-answer g c =
    let long = ap (λ (w : Written). length w.bytes) c.new.ensures in
    let wanting = c.in_err-writer.ensures.otherwise_memory (omega arith) in
    let X = failure UNAUTHORIZED (transaction_id_field c.args.request.now) in
    by_reason c.from_residual-in_err-writer.result _
    (λ r. UnlessMemory r (written_message r ≡ Ok X) (Unit {0}))
    c.from_residual-in_err-writer.ensures.1
    (λ e is. only_memory e (written_message (Err e) ≡ Ok X) (is ∙ wanting))

pub returns-in_err-add_attribute-clause-answer : goal.returns-in_err-add_attribute-clause-answer
returns-in_err-add_attribute-clause-answer g c =
    let error_is = c.in_ok-error.ensures.value ∙ c.builder.ensures in
    let wanting =
    refused_none _ _ _
    (not_refused c.in_ok-writer.writer.bytes _
    (ap (λ (e : CodeAndReason). length (error_value e)) error_is) c.in_ok-writer.ensures.empty
    (ap length c.in_ok-writer.ensures.bytes)) c.in_err-add_attribute.ensures.refused in
    let X = failure UNAUTHORIZED (transaction_id_field c.args.request.now) in
    by_reason c.from_residual-in_err-add_attribute.result _
    (λ r. UnlessMemory r (written_message r ≡ Ok X) (Unit {0}))
    c.from_residual-in_err-add_attribute.ensures.1
    (λ e is. only_memory e (written_message (Err e) ≡ Ok X) (is ∙ wanting))

pub returns-clause-answer : goal.returns-clause-answer
unfolding failure
returns-clause-answer g c =
    let id = transaction_id_field c.args.request.now in
    let error_is = c.in_ok-error.ensures.value ∙ c.builder.ensures in
    ap Ok (c.in_ok-add_attribute.ensures.spelled _ _ [] c.in_ok-writer.ensures.bytes
    ∙ ap (λ n. spelled_message (type_number Class.Error n) id
    (record { kind = ERROR_CODE; value = error_value c.in_ok-error.error } ∷ [])) c.requires
    ∙ ap (λ (e : CodeAndReason). spelled_message (type_number Class.Error 1) id
    (record { kind = ERROR_CODE; value = error_value e } ∷ [])) error_is)

pub returns-clause-open : goal.returns-clause-open
returns-clause-open g c = c.in_ok-add_attribute.ensures.open c.in_ok-writer.ensures.open
