-- A refusal is none of the results.
use Rattle.std.specs.Prelude.{length, nat_lt, not, ◌==◌, ◌&&◌}
use Rattle.stun_base.specs.MessageType.{class_in, class_number}
use Rattle.stun_extra.specs.Turn.{is_any_channel_number}
use Rattle.stun_c.specs.Extra.{known_refusal, unknown_answer, unknown_of}
use Rattle.stun_c.proofs.CarriedLemmas.{answered, passed, unless, unless-value, when}
use Rattle.stun_c.proofs.laws.what_is_begun_is_what_was_asked_for.Goals as goal

pub returns-clause-message : goal.returns-clause-message
returns-clause-message c = λ class method id bytes.
    when (nat_lt class 4 && nat_lt method 4096 && (length id == 12)) _ _ bytes

pub returns-clause-channel : goal.returns-clause-channel
returns-clause-channel c = λ channel data_bytes padded bytes h.
    unless-value (nat_lt 65535 (length data_bytes)) _ _ bytes
    (unless (not (is_any_channel_number channel)) _ _ bytes h)

pub returns-clause-unknown : goal.returns-clause-unknown
returns-clause-unknown c = λ request known bytes h.
    answered (class_number (class_in request) == 0) (length (unknown_of request known) == 0)
    (unknown_answer request (unknown_of request known)) bytes
    (passed (known_refusal request known) _ bytes h)
