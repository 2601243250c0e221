-- What the rest of the bytes comes to, all of them come to.
use Rattle.std.proofs.Common.{length}
use Rattle.stun_c_endpoint.proofs.BodyLemmas.{From}
use Rattle.stun_c_endpoint.proofs.client.body.body_of.Given as goal

abbrev pub invariant-loop-rest : goal.invariant-loop-rest
invariant-loop-rest l = From l.body l.rest l.bytes

abbrev pub decreases-loop-rest : goal.decreases-loop-rest
decreases-loop-rest l = length l.rest
