use Rattle.std.proofs.Common.{◌≡◌, ◌++◌, drop, take}
use Rattle.stun_proto.specs.Serving.{replies, replies_of, after_calls}
use Rattle.stun_proto.proofs.replay.serving.serve.Given as goal

-- the replies so far and those to what is left are those to all
abbrev pub invariant-loop-done : goal.invariant-loop-done
invariant-loop-done g l = record {
  told : replies_of l.replies.items ++ replies l.server (drop l.done l.calls)
      ≡ replies l.fn.server l.calls;
  served : l.server ≡ after_calls l.fn.server (take l.done l.calls);
}
