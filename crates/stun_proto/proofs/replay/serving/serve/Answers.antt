-- The replies are those of the list of calls; each sentence is then a fact of that list.
use Rattle.std.proofs.Common.{◌∙◌, ap, arith, sym, subst, ◌∷◌, []}
use Rattle.std.proofs.lemmas.List.{map-append}
use Rattle.stun_auth.specs.Validation.{sight}
use Rattle.stun_proto.specs.Accepting.{ValidatesEachAccepted}
use Rattle.stun_proto.specs.Isolation.{IsIsolated}
use Rattle.stun_proto.specs.Replies.{message_read}
use Rattle.stun_proto.specs.Serving.{replies_of, reply_of}
use Rattle.stun_proto.proofs.server_runs.AcceptingLemmas.{validates_accepted}
use Rattle.stun_proto.proofs.server_runs.Digests.{digest_held}
use Rattle.stun_proto.proofs.server_runs.IsolationLemmas.{is_isolated, sight-after_calls}
use Rattle.stun_proto.proofs.server_runs.RepliesLemmas.{ValidatesByReplies, validates_by_replies}
use Rattle.stun_proto.proofs.server_runs.ServedCalls.{call_at, told_all, served_all}
use Rattle.stun_proto.proofs.server_runs.ServedCalls.{served_more, told_more}
use Rattle.stun_proto.proofs.replay.serving.serve.Goals as goal

pub returns-clause-isolated : goal.returns-clause-isolated
returns-clause-isolated g c =
    let told =
    told_all c.args.server.now c.loop-done.server _ c.args.calls.now c.loop-done.done (omega arith)
    c.loop-done.invariant.told in
    subst (IsIsolated c.args.server.now c.args.calls.now) (sym told)
    (is_isolated c.args.server.now c.args.calls.now)

pub returns-clause-accepted : goal.returns-clause-accepted
returns-clause-accepted g c =
    let told =
    told_all c.args.server.now c.loop-done.server _ c.args.calls.now c.loop-done.done (omega arith)
    c.loop-done.invariant.told in
    subst (ValidatesEachAccepted c.args.server.now c.args.calls.now) (sym told)
    (validates_accepted c.accepted_messages_are_validated.ensures c.args.server.now
    c.args.calls.now)

pub returns-clause-headline : goal.returns-clause-headline
returns-clause-headline g c =
    let s = c.args.server.now in
    let calls = c.args.calls.now in
    let told =
    told_all s c.loop-done.server _ calls c.loop-done.done (omega arith)
    c.loop-done.invariant.told in
    record {
      replied = told;
      validated =
          subst (ValidatesByReplies message_read s calls) (sym told)
          (validates_by_replies s calls
          (validates_accepted c.accepted_messages_are_validated.ensures s calls));
      digest = digest_held;
      isolated = returns-clause-isolated g c;
    }

pub returns-clause-place : goal.returns-clause-place
returns-clause-place g c =
    let served =
    served_all c.args.server.now c.loop-done.server c.args.calls.now c.loop-done.done (omega arith)
    c.loop-done.invariant.served in
    λ a. ap (λ s. sight s a) served ∙ sight-after_calls a c.args.calls.now c.args.server.now

pub returns-in-Err-push-clause-stopped : goal.returns-in-Err-push-clause-stopped
returns-in-Err-push-clause-stopped g c = (
  omega arith,
  served_more c.args.server.now c.loop-done.server c.serve_call.new.server c.args.calls.now
      c.loop-done.done c.index-calls-done.result
      (call_at c.args.calls.now c.loop-done.done c.index-calls-done.result (omega arith)
      c.index-calls-done.is) c.loop-done.invariant.served c.in-Ok.ensures.server,
)

pub loop-done-preserved : goal.loop-done-preserved
loop-done-preserved g c =
    let s = c.args.server.now in
    let t = c.loop-done.server in
    let calls = c.args.calls.now in
    let i = c.loop-done.done in
    record {
      told = told_more s t c.serve_call.new.server (replies_of c.loop-done.replies.items) _ _ calls
          i c.index-calls-done.result
          (call_at c.args.calls.now c.loop-done.done c.index-calls-done.result (omega arith)
          c.index-calls-done.is) c.loop-done.invariant.told c.in-Ok.ensures.reply
          c.in-Ok.ensures.server
          (ap replies_of c.in-Ok-push.ensures.ok
          ∙ map-append reply_of c.loop-done.replies.items (c.in-Ok.reply ∷ []));
      served =
          served_more s t c.serve_call.new.server calls i c.index-calls-done.result
          (call_at c.args.calls.now c.loop-done.done c.index-calls-done.result (omega arith)
          c.index-calls-done.is) c.loop-done.invariant.served c.in-Ok.ensures.server;
    }
