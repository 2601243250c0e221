-- The bytes of each write follow those of the writes before it.
use Rattle.std.proofs.Common.{rules, ◌∙◌, subst, sym, ap, take}
use Rattle.std.specs.Io.KnownBytes.{Appends}
use Rattle.std.proofs.KnownBytes.{Appends-trans, Appends-kept}
use Rattle.stun_cli.proofs.Writing.{take-then-more}
use Rattle.stun_cli.proofs.output.write_text.Goals as goal
use Rattle.stun_cli.proofs.output.write_text.Goals.{in-Ok, in-Err+else-ne}

pub loop-preserved : goal.loop-preserved
loop-preserved g c = elim c.match-write.branch [
  | in-Ok w ↦
      let text = c.args.text.now in (
        search rules,
        subst (Appends _ _)
            (take-then-more text c.loop.written w.in-Ok.count
            ∙ ap (λ n. take n text) (sym w.written-is))
            (Appends-trans _ _ _ _ _ c.loop.invariant.1 w.in-Ok.ensures.bytes),
      )
  | in-Err+else-ne w ↦ (
    search rules,
    subst (Appends _ _) (search rules)
        (Appends-kept _ _ _ _ c.loop.invariant.1 w.in-Err.ensures.bytes),
  )
]
