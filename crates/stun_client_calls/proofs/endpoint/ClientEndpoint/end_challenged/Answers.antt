-- The request that the response answers has ended.
use Rattle.std.proofs.Common.{◌∙◌, ap}
use Rattle.stun_client_calls.specs.Endpoints.{bare_end}
use Rattle.stun_client_calls.specs.Receiving.{all_memory}
use Rattle.stun_client_calls.proofs.ReceivingLemmas.{challenged_out_as, challenged_out_so, met_is_stored}
use Rattle.stun_client_calls.proofs.endpoint.ClientEndpoint.end_challenged.Goals as goal

pub returns-clause-acted : goal.returns-clause-acted
returns-clause-acted g c =
    λ m found same current.
    challenged_out_so c.args.self.now _ c.args.now c.args.message.now m c.args.number
    c.args.is_current _ c.in-Some.asked c.forget.new.all.entries found same current
    (c.bare-end.ensures ∙ ap bare_end (c.choose_end.ensures m.asked
    (met_is_stored c.args.message.now c.args.self.now m c.args.number found same)))
    c.in-Some.ensures.stored (c.self-2.view_is ∙ c.end_by.ensures.after) c.forget.ensures

pub returns-clause-granted : goal.returns-clause-granted
returns-clause-granted g c =
    λ grants m found same current.
    challenged_out_as c.args.self.now _ c.args.now c.args.message.now m c.args.number
    c.args.is_current _ c.in-Some.asked c.forget.new.all.entries found same current
    (c.bare-end.ensures ∙ ap bare_end (c.choose_end.ensures m.asked
    (met_is_stored c.args.message.now c.args.self.now m c.args.number found same)))
    c.in-Some.ensures.stored (c.self-2.view_is ∙ c.end_by.ensures.after) c.forget.ensures all_memory
