-- A list takes four bytes an algorithm and its header, the choice from it eight.
use Rattle.std.proofs.Common.{◌≤◌, length, ap, arith}
use Rattle.stun_auth.proofs.ChoiceGrowth.{growth-choice}
use Rattle.stun_auth.proofs.client.challenge.KeptChallenge.count_choice_bytes.Goals as goal

pub returns-in_default : goal.returns-in_default
returns-in_default g c =
    let list = c.args.self.now.algorithms.items in
    let same = ap (λ xs. length xs) c.as_slice.ensures.value in
    let some : 1 ≤ length list = omega (arith, same, c.in_default.len_at_least) in
    let whole = growth-choice list c.args.self.now.algorithm some in
    rw whole (omega (arith, same, c.saturating_mul.ensures, c.saturating_add.ensures))
