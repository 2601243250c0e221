-- The response is judged, and what it is judged as is decided on.
use Rattle.std.proofs.lemmas.Result.{IfOk-weaker}
use Rattle.stun_client_calls.specs.Deciding.{decision_of}
use Rattle.stun_client_calls.proofs.PassingLemmas.{doubting_free, impossible, judging_free}
use Rattle.stun_client_calls.proofs.ReceivingLemmas.{decided_at}
use Rattle.stun_client_calls.proofs.endpoint.ClientEndpoint.decide.Goals as goal

pub returns-clause-decided : goal.returns-clause-decided
returns-clause-decided g c =
    IfOk-weaker c.decide.result _ _
    (λ d is. decided_at c.args.self.now _ c.args.now c.args.message.now c.args.met.now _
    c.make_limits.result _ (decision_of d) _ c.self.view_is c.met.view_is (c.make_limits.ensures c.args.met.now.asked)
    c.credentials-credentials.ensures
    c.in_ok-judged.ensures.judged is)
    c.decide.ensures.decided

pub returns-in_err-judged-clause-no_memory : goal.returns-in_err-judged-clause-no_memory
returns-in_err-judged-clause-no_memory g c =
    λ free. absurd
    (impossible
    (c.in_err-judged.ensures.no_memory
    (judging_free c.args.self.now _ c.args.message.now c.args.met.now _ _ c.self.view_is
    c.met.view_is c.credentials-credentials.ensures free)))

pub returns-clause-no_memory : goal.returns-clause-no_memory
returns-clause-no_memory g c =
    λ free. c.decide.ensures.no_memory
    (doubting_free c.args.self.now _ c.args.message.now c.args.met.now _ _ _ c.self.view_is
    c.met.view_is c.credentials-credentials.ensures c.in_ok-judged.ensures.judged free)
