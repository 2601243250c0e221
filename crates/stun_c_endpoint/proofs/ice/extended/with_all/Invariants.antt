-- What the rest of the bytes comes to, all of them come to.
use Rattle.std.proofs.Common.{◌≤◌, length}
use Rattle.stun_c_endpoint.proofs.AddingLemmas.{After}
use Rattle.stun_c_endpoint.proofs.ice.extended.with_all.Given as goal

abbrev pub invariant-loop-rest : goal.invariant-loop-rest
invariant-loop-rest l = record {
  from : After l.whole.bytes l.rest l.fn.page.bytes l.bytes;
  header : 20 ≤ length l.whole.bytes;
}

abbrev pub decreases-loop-rest : goal.decreases-loop-rest
decreases-loop-rest l = length l.rest
