-- The attribute that decides is within the message.
use Rattle.std.proofs.Common.{◌≡◌, rules, Some}
use Rattle.stun_types.specs.Integrity.{deciding}
use Rattle.stun_types.proofs.IntegrityLemmas.{deciding_within}
use Rattle.stun_types.proofs.integrity.find_claimed_digest.Goals as goal

pub returns-clause-within : goal.returns-clause-within
returns-clause-within c =
    let found = Some (c.in-Some.place, c.in-Some.attribute) in
    let decides : deciding c.args.message.now ≡ found = search rules in
    deciding_within c.args.message.now found decides
