-- What `keep_request` refuses is handed on.
use Rattle.std.proofs.Common.{◌≡◌, rules, sym, subst}
use Rattle.std.specs.Prelude.{Err, MatchOption, IsErrOf, IsOkUnless}
use Rattle.stun_agent.specs.declared.error.StunError.TheVariants.{OutOfMemory}
use Rattle.stun_agent.specs.Agent.{request_refusal}
use Rattle.stun_agent.proofs.RefusalLemmas.{handed_on}
use Rattle.stun_agent.proofs.agent.StunAgent.send_request.Goals as goal

pub returns-in_err-id : goal.returns-in_err-id
returns-in_err-id g c =
    let same : c.bytes.result.now ≡ g.T.OwnedBytes.contents c.args.msg = search rules in
    let is : c.from_residual.result ≡ Err c.in_err-id.field-0.0 = search rules in
    let refused =
    handed_on _ _ (request_refusal c.args.self.now c.bytes.result.now c.args.to)
    c.in_err-id.field-0.0 OutOfMemory c.in_err-id.ensures.refused in (
      search rules,
      record {
        after = tt;
        refused =
            subst (λ b.
            MatchOption (request_refusal c.args.self.now b c.args.to)
            (IsOkUnless c.from_residual.result OutOfMemory) (IsErrOf c.from_residual.result)) same
            (subst (λ r. MatchOption (request_refusal c.args.self.now c.bytes.result.now c.args.to)
            (IsOkUnless r OutOfMemory) (IsErrOf r)) (sym is) refused);
        granted = search (rules, same);
        sent = search rules;
      },
    )
