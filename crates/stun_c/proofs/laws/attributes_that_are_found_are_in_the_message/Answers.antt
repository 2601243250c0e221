-- The numbers of refusals are negative.
use Rattle.std.specs.Prelude.{slice_get}
use Rattle.stun_types.specs.Integrity.{first_of}
use Rattle.stun_types.specs.Message.{refusal}
use Rattle.stun_types.specs.Visible.{visible}
use Rattle.stun_c.specs.Reading.{next_member}
use Rattle.stun_c.specs.Walking.{ahead, cursor_refusal}
use Rattle.stun_c.proofs.Found.{behind, found, next, walked}
use Rattle.stun_c.proofs.laws.attributes_that_are_found_are_in_the_message.Goals as goal

pub returns-clause-found : goal.returns-clause-found
returns-clause-found c = λ bytes kind before part n h.
    found bytes kind (first_of kind (visible bytes)) part before n h

pub returns-clause-next : goal.returns-clause-next
returns-clause-next c = λ bytes place before part n h.
    next (refusal bytes) (next_member place bytes) part before n h

pub returns-clause-behind : goal.returns-clause-behind
returns-clause-behind c = λ bytes place m h. behind bytes place m h

pub returns-clause-walked : goal.returns-clause-walked
returns-clause-walked c = λ cursor bytes before part n h.
    walked (cursor_refusal cursor bytes) (slice_get (ahead cursor bytes) 0) part before n h
