-- The place is forgotten if it has expired, and nothing changes if it has not.
use Rattle.std.proofs.Common.{sym, ◌∙◌, ap}
use Rattle.std.specs.Prelude.{cond}
use Rattle.std.specs.FinMap as map
use Rattle.stun_auth.proofs.server.places.Places.forget_if.Goals as goal

pub returns-then-has_expired : goal.returns-then-has_expired
returns-then-has_expired g c =
    c.forget.ensures
    ∙ ap (λ b. cond b (map.remove c.args.self.now.seen c.args.address) c.args.self.now.seen)
    (sym c.if-has_expired.true)

pub returns-else-has_expired : goal.returns-else-has_expired
returns-else-has_expired g c =
    ap (λ b. cond b (map.remove c.args.self.now.seen c.args.address) c.args.self.now.seen)
    (sym c.if-has_expired.false)
