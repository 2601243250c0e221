-- A meeting in the code's types.
use Rattle.stun_auth.specs.Client.{ClientSettings}
use Rattle.stun_proto.specs.Negotiation.{Meeting, Round}
use Rattle.stun_proto.specs.declared.replay.negotiation.meeting.Meeting as code
use Rattle.stun_proto.specs.declared.replay.negotiation.meeting.Asking as code_turn

abbrev pub round_of : code_turn.Asking → Round
round_of t = record { id = t.id; now = t.moment; words = t.words; before = t.before.now }

-- the meeting of a client with these settings
abbrev pub meeting_of : ClientSettings → code.Meeting → Meeting
meeting_of settings m =
    record {
      settings = settings;
      from = m.from;
      first = round_of m.first;
      second = round_of m.second;
    }
