-- The word of the type is set at its index.
use Rattle.std.proofs.Common.{◌/◌, ◌%◌, ◌<◌, ◌∙◌, ap, get_or, length, rules}
use Rattle.std.specs.Prelude.{slice_set}
use Rattle.stun_extra.specs.code.Told.{is_set}
use Rattle.stun_extra.proofs.ToldLemmas.{is_set-added, with_bit}
use Rattle.stun_extra.proofs.told.set.Goals as goal

pub returns : goal.returns
returns c other =
    let words = c.args.words.now in
    let within : c.args.kind / 64 < length words = search rules in
    ap (λ i. is_set (slice_set words i (with_bit (get_or words i 0) (c.args.kind % 64))) other)
    c.from.ensures
    ∙ is_set-added words c.args.kind other within
