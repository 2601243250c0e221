-- A 401 is built, and signed for the address.
use Rattle.std.proofs.Common.{◌≡◌, List, ℕ, sym, subst, Ok, Err}
use Rattle.std.specs.declared.result.Result.{Result}
use Rattle.stun_base.specs.Header.{transaction_id_field}
use Rattle.stun_base.specs.declared.wire.error.StunWriteError.{StunWriteError}
use Rattle.stun_types.specs.WriteVec.{Written}
use Rattle.stun_judging.specs.Additions.{UnlessMemory}
use Rattle.stun_judging.specs.Reading.{UNAUTHORIZED}
use Rattle.stun_auth.specs.Validation.{sight}
use Rattle.stun_proto.specs.Negotiation.{failure, server_response}
use Rattle.stun_proto.specs.code.Signed.{signed_page}
use Rattle.stun_proto.proofs.meetings.Typed.{by_reason, failure_responds, unless_map}
use Rattle.stun_proto.proofs.replay.negotiation.messages.make_challenge.Goals as goal

same_bytes : (a b : List ℕ) → ◌≡◌ {A = Result (List ℕ) StunWriteError} (Ok a) (Ok b) → a ≡ b
same_bytes a b h = cc

never : (e : StunWriteError) (b : List ℕ) (P : Type 0)
    → ◌≡◌ {A = Result (List ℕ) StunWriteError} (Err e) (Ok b) → P
never e b P h = cc

pub make_unauthorized-requires : goal.make_unauthorized-requires
make_unauthorized-requires g c = c.requires

pub returns-in_err-writer-clause-answer : goal.returns-in_err-writer-clause-answer
returns-in_err-writer-clause-answer g c =
    let X = server_response (failure UNAUTHORIZED (transaction_id_field c.args.request.now))
    (sight c.args.server.now c.args.to) in
    by_reason c.from_residual.result _ (λ r. UnlessMemory r (signed_page r ≡ X) (Unit {0}))
    c.from_residual.ensures.1
    (λ e is. subst (λ x. UnlessMemory {V = Written} (Err x) (signed_page (Err x) ≡ X) (Unit {0}))
    (sym is)
    (unless_map (Err c.in_err-writer.field-0.0) (Unit {0})
    (λ h. never _ _ (signed_page (Err c.in_err-writer.field-0.0) ≡ X) h)
    c.in_err-writer.ensures.answer))

pub sign-requires-clause-open : goal.sign-requires-clause-open
sign-requires-clause-open g c = c.in_ok-writer.ensures.open

pub sign-requires-clause-response : goal.sign-requires-clause-response
sign-requires-clause-response g c =
    failure_responds UNAUTHORIZED (transaction_id_field c.args.request.now)
    c.in_ok-writer.writer.bytes (same_bytes _ _ c.in_ok-writer.ensures.answer)

pub returns-clause-answer : goal.returns-clause-answer
returns-clause-answer g c =
    subst (λ b.
    UnlessMemory c.sign.result
    (signed_page c.sign.result ≡ server_response b (sight c.args.server.now c.args.to)) (Unit {0}))
    (same_bytes _ _ c.in_ok-writer.ensures.answer) c.sign.ensures.answer

pub returns-clause-message : goal.returns-clause-message
returns-clause-message g c = c.sign.ensures.message

pub returns-clause-server : goal.returns-clause-server
returns-clause-server g c = c.sign.ensures.server

pub returns-clause-refused : goal.returns-clause-refused
returns-clause-refused g c = c.sign.ensures.refused
