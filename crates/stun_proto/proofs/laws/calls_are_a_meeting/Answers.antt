-- From the last call to the first: what each leaves is what is left of the meeting.
use Rattle.stun_proto.proofs.meetings.MeetingLoopLemmas.{meetings_agree, meetings_are_negotiated}
use Rattle.stun_proto.proofs.laws.calls_are_a_meeting.Goals as goal

pub returns-clause-negotiated : goal.returns-clause-negotiated
returns-clause-negotiated c = meetings_are_negotiated

pub returns-clause-strongest : goal.returns-clause-strongest
returns-clause-strongest c = meetings_agree c.strongest_is_agreed.ensures
