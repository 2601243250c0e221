-- The first bit is set among zeros, which tell of no type.
use Rattle.std.proofs.Common.{◌∙◌, ap, sym}
use Rattle.std.specs.Prelude.{◌==◌, ◌||◌}
use Rattle.stun_extra.specs.code.Told.{is_told}
use Rattle.stun_extra.proofs.ToldLemmas.{is_set-none}
use Rattle.stun_extra.proofs.told.Told.add.Goals as goal

pub returns-in-None : goal.returns-in-None
returns-in-None c other =
    c.set-in-None.ensures other
    ∙ ap (λ told. told || (other == c.args.kind))
    (is_set-none 512 other ∙ sym (ap (λ words. is_told words other) c.in-None.is))
