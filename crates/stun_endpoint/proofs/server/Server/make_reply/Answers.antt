-- What a reply stores is what the server has been set up with.
use Rattle.std.proofs.Common.{◌≡◌, IfOk, subst}
use Rattle.stun_endpoint.specs.Received.{responding_of}
use Rattle.stun_endpoint.specs.Responding.{reply_by}
use Rattle.stun_endpoint.specs.Settings.{Settings}
use Rattle.stun_endpoint.proofs.server.Server.make_reply.Goals as goal

pub returns-clause-reply : goal.returns-clause-reply
returns-clause-reply g c =
    subst (λ (s : Settings). IfOk c.make_reply.result (λ reply. reply
    ≡ reply_by (responding_of s) c.args.signature c.args.from c.args.request.now)) c.self.view_is
    c.make_reply.ensures.reply
