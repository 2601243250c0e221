-- Whether there is a reason to refuse is what `read_id_to_ask` has found.
use Rattle.std.proofs.Common.{rules, sym, subst}
use Rattle.std.specs.Prelude.{Ok, MatchOption, IsErrOf, IsOkUnless}
use Rattle.stun_base.specs.Header.{transaction_id_field}
use Rattle.stun_agent.specs.declared.error.StunError.TheVariants.{OutOfMemory}
use Rattle.stun_agent.specs.Agent.{request_refusal}
use Rattle.stun_agent.proofs.RefusalLemmas.{none-from_ok, some-from_err}
use Rattle.stun_agent.proofs.agent.StunAgent.keep_request.Goals as goal

pub returns-in_err-id-clause-refused : goal.returns-in_err-id-clause-refused
returns-in_err-id-clause-refused g c =
    let reason =
    some-from_err (request_refusal c.args.self.now c.args.bytes.now c.args.to)
    (transaction_id_field c.args.bytes.now) _ c.in_err-id.ensures.answer in
    subst (λ o. MatchOption o (IsOkUnless c.from_residual.result OutOfMemory)
    (IsErrOf c.from_residual.result)) (sym reason) (search rules)

pub returns-in_err-kept-clause-refused : goal.returns-in_err-kept-clause-refused
returns-in_err-kept-clause-refused g c =
    let none =
    none-from_ok (request_refusal c.args.self.now c.args.bytes.now c.args.to)
    (transaction_id_field c.args.bytes.now) _ c.in_ok-id.ensures.answer in
    subst (λ o. MatchOption o (IsOkUnless c.from_residual-in_err-kept.result OutOfMemory)
    (IsErrOf c.from_residual-in_err-kept.result)) (sym none) (search rules)

pub returns-in_err-insert-clause-refused : goal.returns-in_err-insert-clause-refused
returns-in_err-insert-clause-refused g c =
    let none =
    none-from_ok (request_refusal c.args.self.now c.args.bytes.now c.args.to)
    (transaction_id_field c.args.bytes.now) _ c.in_ok-id.ensures.answer in
    subst (λ o. MatchOption o (IsOkUnless c.from_residual-in_err-insert.result OutOfMemory)
    (IsErrOf c.from_residual-in_err-insert.result)) (sym none) (search rules)

pub returns-clause-refused : goal.returns-clause-refused
returns-clause-refused g c =
    let none =
    none-from_ok (request_refusal c.args.self.now c.args.bytes.now c.args.to)
    (transaction_id_field c.args.bytes.now) _ c.in_ok-id.ensures.answer in
    subst (λ o. MatchOption o (IsOkUnless (Ok c.in_ok-id.id) OutOfMemory)
    (IsErrOf (Ok c.in_ok-id.id))) (sym none) tt

pub returns-clause-taken : goal.returns-clause-taken
returns-clause-taken g c =
    none-from_ok (request_refusal c.args.self.now c.args.bytes.now c.args.to)
    (transaction_id_field c.args.bytes.now) _ c.in_ok-id.ensures.answer
