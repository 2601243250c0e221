-- The datagrams before the index are received.
use Rattle.std.proofs.Common.{◌≡◌, Some, length, take}
use Rattle.stun_endpoint.specs.Batches.{FollowOneAnother, outcomes_at, received_all}
use Rattle.stun_endpoint.proofs.server.Server.receive_many.Given as goal

abbrev pub invariant-loop-datagram : goal.invariant-loop-datagram
invariant-loop-datagram g l = record {
  received : outcomes_at l.answers l.results.items
      ≡ received_all l.self (Some l.users.registered) l.now (take l.datagram-index l.datagrams);
  ranges : FollowOneAnother 0 l.results.items (length l.answers);
  count : length l.results.items ≡ l.datagram-index;
}
