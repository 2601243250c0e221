-- What is found is among the visible attributes, and so is within.
use Rattle.std.proofs.Common.{◌≡◌, rules, subst, Some}
use Rattle.std.specs.Prelude.{IfSome}
use Rattle.stun_types.specs.code.Walk.{IsInside}
use Rattle.stun_types.specs.Integrity.{first_of}
use Rattle.stun_types.specs.Visible.{visible}
use Rattle.stun_types.proofs.IntegrityLemmas.{first_of-within}
use Rattle.stun_types.proofs.integrity.find_first.Goals as goal

pub returns-clause-within : goal.returns-clause-within
returns-clause-within c =
    let bytes = c.args.message.now in
    let found = Some (c.in_ok-place.place, c.in_ok-at.field-0) in
    let is : first_of c.args.kind.0 (visible bytes) ≡ found = search rules in
    subst (λ found. IfSome found (IsInside bytes)) is (first_of-within c.args.kind.0 bytes)
