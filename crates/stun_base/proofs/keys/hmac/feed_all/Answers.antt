-- The hash holds the concatenation: one piece more is one step of `concat`.
use Rattle.std.proofs.Common.{[]}
use Rattle.stun_base.proofs.Pieces.{concat_more}
use Rattle.stun_base.proofs.keys.hmac.feed_all.Goals as goal

pub loop-piece-preserved : goal.loop-piece-preserved
loop-piece-preserved g c = λ message held.
    let next =
    concat_more (λ piece. piece.now) message c.args.pieces.now c.loop-piece.piece-index
    (record { ref_ptr = (0, 0); now = [] }) c.loop-piece-test.true in
    rw next (c.feed.ensures _ (c.loop-piece.invariant message held))
