-- The bytes have the method of the request and the transaction ID, which fit a header.
use Rattle.std.proofs.Common.{◌<◌, ◌^◌, arith}
use Rattle.std.proofs.lemmas.Result.{IfOk-weaker}
use Rattle.stun_client_calls.proofs.HeaderLemmas.{is_request_with}
use Rattle.stun_client_calls.proofs.writing.message.Goals as goal

pub returns-clause-named : goal.returns-clause-named
returns-clause-named g c =
    let low : c.method-method.result < 4096 = omega arith in
    let fits : c.args.id < 256 ^ 12 = omega arith in
    IfOk-weaker c.written.result _ _
    (λ bytes is. is_request_with _ _ _ c.method-method.result c.args.id _ bytes.items low fits is)
    c.written.ensures.ok
