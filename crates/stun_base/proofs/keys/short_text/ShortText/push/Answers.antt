-- What lies after the piece is what lay there before: zeros.
use Rattle.std.proofs.Common.{◌≡◌, ◌≤◌, ◌+◌, ◌-◌, length, drop}
use Rattle.std.proofs.Common.{replicate, arith, rules, sym, ap, ◌∙◌}
use Rattle.std.proofs.lemmas.List.{drop-drop, drop-replicate}
use Rattle.std.proofs.lemmas.Slice.{drop-put_mid}
use Rattle.stun_base.proofs.keys.short_text.ShortText.push.Goals as goal

pub invariant_of-self : goal.invariant_of-self
invariant_of-self c =
    let at = c.self.inside.length in
    let more = length c.args.piece.now in
    let block = c.self.inside.block in
    let fits : at + more ≤ 64 = search rules in
    let behind : drop (at + more) block ≡ replicate (64 - (at + more)) 0 =
    sym (drop-drop more at block)
    ∙ (ap (drop more) c.self.invariant.1 ∙ drop-replicate more (64 - at) 0
    ∙ ap (λ n. replicate n 0) (omega arith)) in (
      fits,
      rw (drop-put_mid at (at + more - at) block c.copy_from_slice.new.self (at + more)
          (omega arith) (search rules) (search rules)) behind,
    )
