-- The length in each header says where its message ends, so cutting goes on at the next.
use Rattle.stun_types.specs.Message.{IsMessage}
use Rattle.stun_extra.specs.Framing.{frame_of}
use Rattle.stun_extra.proofs.BeginLemmas.{frame-never, frame-part}
use Rattle.stun_extra.proofs.CuttingLemmas.{cut_of-append, cut_of-messages}
use Rattle.stun_extra.proofs.FramingLemmas.{frame-message, frame-steady}
use Rattle.stun_extra.proofs.laws.stream_is_cut_into_its_messages.Goals as goal

pub returns-clause-whole : goal.returns-clause-whole
returns-clause-whole c = frame-message

pub returns-clause-begun : goal.returns-clause-begun
returns-clause-begun c = frame-part

pub returns-clause-refused : goal.returns-clause-refused
returns-clause-refused c = frame-never

pub returns-clause-cut : goal.returns-clause-cut
returns-clause-cut c = cut_of-messages frame_of IsMessage frame-steady frame-message

pub returns-clause-fed : goal.returns-clause-fed
returns-clause-fed c = cut_of-append frame_of frame-steady
