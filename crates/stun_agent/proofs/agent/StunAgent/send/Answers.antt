-- Whether there is a reason to refuse is what `read_class_to_send` has found.
use Rattle.std.proofs.Common.{◌≡◌, rules, sym, subst, ◌∙◌, ap}
use Rattle.std.specs.Prelude.{Ok, MatchOption, IsOk, IsErrOf}
use Rattle.stun_agent.specs.declared.error.StunError.{StunError}
use Rattle.stun_agent.specs.Agent.{sending_refusal}
use Rattle.stun_agent.proofs.agent.StunAgent.send.Goals as goal

pub returns-in_err-class-clause-refused : goal.returns-in_err-class-clause-refused
returns-in_err-class-clause-refused g c =
    let same : c.bytes-bytes.result.now ≡ g.T.OwnedBytes.contents c.args.msg = search rules in
    let reason = ap (λ b. sending_refusal c.args.self.now b c.args.to) (sym same)
    ∙ c.in_err-class.ensures.refused in
    subst (λ o. MatchOption o (IsOk c.from_residual.result) (IsErrOf c.from_residual.result))
    (sym reason) (search rules)

pub returns-clause-refused : goal.returns-clause-refused
returns-clause-refused g c =
    let same : c.bytes-bytes.result.now ≡ g.T.OwnedBytes.contents c.args.msg = search rules in
    let none = ap (λ b. sending_refusal c.args.self.now b c.args.to) (sym same)
    ∙ c.in_ok-class.ensures.accepted in
    subst (λ o. MatchOption o (IsOk {E = StunError} (Ok c.new.result))
    (IsErrOf {E = StunError} (Ok c.new.result))) (sym none) (search rules)
