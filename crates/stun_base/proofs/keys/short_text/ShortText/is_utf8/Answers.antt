-- The block is the text and zeros, which are ASCII, so the one is UTF-8 just where the other is.
use Rattle.std.proofs.Common.{◌≡◌, ◌<◌, ◌++◌, ◌-◌, arith, sym, ◌∙◌, replicate, take-append-drop}
use Rattle.simdutf8.proofs.StepsLemmas.{IsUtf8-append_ascii, IsAscii-replicate}
use Rattle.stun_base.proofs.keys.short_text.ShortText.is_utf8.Goals as goal

pub returns : goal.returns
returns c =
    let ascii : 0 < 128 = omega arith in
    let text = c.args.self.now in
    let zeros = replicate (64 - c.self.inside.length) 0 in
    let whole : c.self.inside.block ≡ text ++ zeros =
    sym (take-append-drop c.self.inside.length c.self.inside.block)
    ∙ rw (c.self.view_is, c.self.invariant.1) in
    let said = c.finish.ensures _ (rw whole at (c.step.ensures _ c.new.ensures)) in
    let behind =
    IsUtf8-append_ascii text zeros (IsAscii-replicate (64 - c.self.inside.length) 0 ascii) in
    (λ t. behind.0 (said.0 t), λ u. said.1 (behind.1 u))
