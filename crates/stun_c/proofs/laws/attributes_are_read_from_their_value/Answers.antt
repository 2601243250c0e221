-- Each call reads the value first.
use Rattle.std.proofs.Common.{refl}
use Rattle.std.specs.Prelude.{drop, nat_lt, not, ◌||◌}
use Rattle.stun_base.specs.Header.{HEADER_LENGTH, transaction_id_field}
use Rattle.stun_types.specs.Attribute.{first_attribute, has_attribute}
use Rattle.stun_c.specs.Reading.{value_at}
use Rattle.stun_c.proofs.CarriedLemmas.{address_read, sized, text_read}
use Rattle.stun_c.proofs.laws.attributes_are_read_from_their_value.Goals as goal

pub returns-clause-number : goal.returns-clause-number
returns-clause-number c = λ bytes value place.
    sized (nat_lt place HEADER_LENGTH || not (has_attribute (drop place bytes)))
    (first_attribute (drop place bytes)).value value

pub returns-clause-text : goal.returns-clause-text
returns-clause-text c = λ bytes text place. text_read (value_at bytes place) text

pub returns-clause-types : goal.returns-clause-types
returns-clause-types c = λ bytes place. refl

pub returns-clause-address : goal.returns-clause-address
returns-clause-address c = λ bytes octets place.
    address_read (nat_lt place HEADER_LENGTH || not (has_attribute (drop place bytes)))
    (first_attribute (drop place bytes)) (transaction_id_field bytes) octets
