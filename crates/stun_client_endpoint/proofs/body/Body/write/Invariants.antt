-- the attributes from the index on are left to write
use Rattle.std.proofs.Common.{◌≡◌, ◌≤◌, drop, length}
use Rattle.stun_client_endpoint.specs.Written.{with_body}
use Rattle.stun_client_endpoint.proofs.body.Body.write.Given as goal

abbrev pub invariant-loop-piece : goal.invariant-loop-piece
invariant-loop-piece g l = record {
  header : 20 ≤ length l.page.bytes;
  left : with_body l.id (drop l.piece-index l.piece-items) l.page.bytes
      ≡ with_body l.id l.piece-items l.initial.page.bytes;
}
