-- the attributes before the index are copied
use Rattle.std.proofs.Common.{◌≡◌, take}
use Rattle.stun_client_endpoint.proofs.body.Body.cloned.Given as goal

abbrev pub invariant-loop-piece : goal.invariant-loop-piece
invariant-loop-piece g l = l.pieces.items ≡ take l.piece-index l.piece-items
