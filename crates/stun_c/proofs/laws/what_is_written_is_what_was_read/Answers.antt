-- The numbers of refusals are negative.
use Rattle.std.proofs.Common.{ap}
use Rattle.stun_c.specs.Reading.{sized_after}
use Rattle.stun_c.specs.Turn.{channel_refusal}
use Rattle.stun_c.proofs.Found.{address, channel, frame_told, room, text_told, types_told}
use Rattle.stun_c.proofs.Found.{unknown_told}
use Rattle.stun_c.proofs.laws.what_is_written_is_what_was_read.Goals as goal

pub returns-clause-text : goal.returns-clause-text
returns-clause-text c = λ x place before n h. text_told x place before n h

pub returns-clause-number : goal.returns-clause-number
returns-clause-number c = λ bytes value place before h. ap (λ x. sized_after x before) h

pub returns-clause-address : goal.returns-clause-address
returns-clause-address c = λ a room before octets h. address a room before octets h

pub returns-clause-channel : goal.returns-clause-channel
returns-clause-channel c = λ bytes n number before h.
    channel (channel_refusal bytes) n number before h

pub returns-clause-types : goal.returns-clause-types
returns-clause-types c = λ x numbers n h. types_told x numbers n h

pub returns-clause-unknown : goal.returns-clause-unknown
returns-clause-unknown c = λ bytes known numbers n h. unknown_told bytes known numbers n h

pub returns-clause-frame : goal.returns-clause-frame
returns-clause-frame c = λ there n one h. frame_told there n one h

pub returns-clause-room : goal.returns-clause-room
returns-clause-room c = λ made before after result h. room made before after result h
