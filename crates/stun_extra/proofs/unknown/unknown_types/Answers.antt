-- Nothing was told yet.
use Rattle.std.proofs.Common.{◌∙◌, ap, arith, length}
use Rattle.stun_extra.specs.code.Told.{left_to_tell}
use Rattle.stun_extra.proofs.UnknownLemmas.{left_to_tell-none, unknown_types-few}
use Rattle.stun_extra.proofs.unknown.unknown_types.Goals as goal

pub returns-clause-types : goal.returns-clause-types
returns-clause-types c =
    ap (left_to_tell c.args.known.now c.new.result.words) c.iter_attributes.ensures.visible
    ∙ left_to_tell-none c.args.known.now c.new.result.words c.args.message.now c.new.ensures

pub returns-clause-few : goal.returns-clause-few
returns-clause-few c =
    let few = unknown_types-few c.args.known.now c.args.message.now in
    omega (
      arith,
      few,
      ap length (returns-clause-types c),
      ap length c.iter_attributes.ensures.visible,
      c.iter_attributes.ensures.few,
    )
