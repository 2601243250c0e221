-- The numbers of refusals are negative.
use Rattle.stun_types.specs.Message.{refusal}
use Rattle.stun_base.specs.Header.{header_refusal, transaction_id_field, type_field}
use Rattle.stun_base.specs.MessageType.{class_in, class_number, method_of}
use Rattle.stun_numbers.specs.Refusals.{message_refusal}
use Rattle.stun_c.specs.Reading.{address_in, error_in}
use Rattle.stun_c.specs.Turn.{channel_in, transport_in}
use Rattle.stun_c.proofs.CarriedLemmas.{coded, headed, identified, number_read, shown, told}
use Rattle.stun_c.proofs.laws.what_is_read_is_in_the_message.Goals as goal

pub returns-clause-class : goal.returns-clause-class
returns-clause-class c = λ bytes n. told (refusal bytes) (class_number (class_in bytes)) n

pub returns-clause-method : goal.returns-clause-method
returns-clause-method c = λ bytes n. told (refusal bytes) (method_of (type_field bytes)) n

pub returns-clause-header : goal.returns-clause-header
returns-clause-header c = λ bytes header. headed (header_refusal bytes) bytes header

pub returns-clause-id : goal.returns-clause-id
returns-clause-id c = λ bytes id. identified (refusal bytes) bytes id

pub returns-clause-error : goal.returns-clause-error
returns-clause-error c = λ bytes n. coded (refusal bytes) (error_in bytes) n

pub returns-clause-address : goal.returns-clause-address
returns-clause-address c = λ bytes octets port.
    shown (message_refusal (refusal bytes)) (address_in bytes) (transaction_id_field bytes) octets port

pub returns-clause-channel : goal.returns-clause-channel
returns-clause-channel c = λ bytes n. number_read (refusal bytes) (channel_in bytes) n

pub returns-clause-transport : goal.returns-clause-transport
returns-clause-transport c = λ bytes n. number_read (refusal bytes) (transport_in bytes) n
