-- A refusal is none of the results.
use Rattle.std.specs.Prelude.{nat_lt}
use Rattle.stun_base.specs.Attributes.{ERROR_CODE}
use Rattle.stun_base.specs.Header.{transaction_id_field}
use Rattle.std.specs.Prelude.{take}
use Rattle.byteorder.specs.Endian.{big_bytes}
use Rattle.stun_types.specs.ErrorCode.{error_value}
use Rattle.stun_c.specs.Writing.{error_argument_refusal, has_size, hidden_value}
use Rattle.stun_c.specs.Writing.{is_address, plain_value}
use Rattle.stun_c.proofs.CarriedLemmas.{added, numbered, if-so, passed, written}
use Rattle.stun_c.proofs.laws.attributes_are_added_behind_the_message.Goals as goal

pub returns-clause-any : goal.returns-clause-any
returns-clause-any c = λ buffer count attribute value bytes. numbered buffer count attribute value bytes

pub returns-clause-hidden : goal.returns-clause-hidden
returns-clause-hidden c = λ buffer count attribute octets port bytes h.
    added buffer count attribute (hidden_value octets port (transaction_id_field (take count buffer)))
    bytes (if-so (is_address octets port) _ _ bytes (if-so (nat_lt attribute 65536) _ _ bytes h))

pub returns-clause-plain : goal.returns-clause-plain
returns-clause-plain c = λ buffer count attribute octets port bytes h.
    numbered buffer count attribute (plain_value octets port) bytes
    (if-so (is_address octets port) _ _ bytes h)

pub returns-clause-number : goal.returns-clause-number
returns-clause-number c = λ buffer count attribute size number bytes h.
    numbered buffer count attribute (big_bytes size number) bytes
    (if-so (has_size size number) _ _ bytes h)

pub returns-clause-error : goal.returns-clause-error
returns-clause-error c = λ buffer count code reason bytes h.
    added buffer count ERROR_CODE (error_value (record { code = code; reason = reason })) bytes
    (passed (error_argument_refusal code reason) _ bytes h)

pub returns-clause-buffer : goal.returns-clause-buffer
returns-clause-buffer c = λ made before after result h. written made before after result h
