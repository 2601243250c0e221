use Rattle.std.proofs.Common.{List, ℕ, ◌++◌, map, take}
use Rattle.std.specs.List.{concat}
use Rattle.stun_base.proofs.keys.hmac.feed_all.Given as goal

-- the hasher holds what it held before, then the pieces so far
abbrev pub invariant-loop-piece : goal.invariant-loop-piece
invariant-loop-piece g l =
    (message : List ℕ) → g.H.HashFunction.holds l.fn.hasher message
    → g.H.HashFunction.holds l.hasher
    (message ++ concat (map (λ piece. piece.now) (take l.piece-index l.pieces)))
