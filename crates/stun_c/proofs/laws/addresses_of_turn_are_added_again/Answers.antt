-- The types of TURN may repeat, and no other may.
use Rattle.std.specs.Prelude.{◌-◌, length, take, Ok}
use Rattle.stun_numbers.specs.Messages.{base_refusal}
use Rattle.stun_types.specs.Writing.{is_set_apart, with_attribute}
use Rattle.stun_c.specs.Writing.{fit_refusal, shows_kind}
use Rattle.stun_c.proofs.CarriedLemmas.{again, shown_once}
use Rattle.stun_c.proofs.laws.addresses_of_turn_are_added_again.Goals as goal

pub returns-clause-peer : goal.returns-clause-peer
returns-clause-peer c = λ buffer count value base fits.
    again (base_refusal buffer count)
    (fit_refusal (take count buffer) (length buffer - count) (length value))
    (with_attribute (take count buffer) (record { kind = 0x0012; value = value })) base fits

pub returns-clause-relayed : goal.returns-clause-relayed
returns-clause-relayed c = λ buffer count value base fits.
    again (base_refusal buffer count)
    (fit_refusal (take count buffer) (length buffer - count) (length value))
    (with_attribute (take count buffer) (record { kind = 0x0016; value = value })) base fits

pub returns-clause-once : goal.returns-clause-once
returns-clause-once c = λ buffer count attribute value bytes peer relayed shown h.
    shown_once buffer count attribute value bytes peer relayed shown h
