-- The attribute that decides is within the message.
use Rattle.std.proofs.Common.{Some}
use Rattle.stun_types.specs.Walk.{Member}
use Rattle.stun_types.specs.code.Walk.{IsInside}
use Rattle.stun_types.proofs.IntegrityLemmas.{deciding_within}
use Rattle.stun_types.proofs.message.Message.validate_integrity_at.Goals as goal

pub is_digest-requires-clause-behind_header : goal.is_digest-requires-clause-behind_header
is_digest-requires-clause-behind_header g c =
    let m : Member = (c.args.place, c.args.attribute.now) in
    let within : IsInside c.args.self.now m = deciding_within c.args.self.now (Some m) c.requires in
    within.behind_header

pub is_digest-requires-clause-within : goal.is_digest-requires-clause-within
is_digest-requires-clause-within g c =
    let m : Member = (c.args.place, c.args.attribute.now) in
    let within : IsInside c.args.self.now m = deciding_within c.args.self.now (Some m) c.requires in
    rw c.as_bytes.ensures.bytes within.whole
