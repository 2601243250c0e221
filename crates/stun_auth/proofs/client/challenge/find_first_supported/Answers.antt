-- The first supported algorithm from the index on: the one there, or the first one after it.
use Rattle.std.proofs.Common.{◌≡◌, Bool, true, false, Some, ◌∙◌, ap, sym}
use Rattle.std.specs.Prelude.{find, map}
use Rattle.stun_types.specs.PasswordAlgorithms.{integrity_of}
use Rattle.stun_base.specs.declared.keys.algorithm.IntegrityAlgorithm.{IntegrityAlgorithm}
use Rattle.stun_judging.specs.Algorithms.{has}
use Rattle.stun_auth.specs.code.Supported.{in_order}
use Rattle.stun_judging.proofs.ListSteps.{drop-past, find-at, find-past}
use Rattle.stun_auth.proofs.client.challenge.find_first_supported.Goals as goal
use Rattle.stun_auth.proofs.client.challenge.find_first_supported.Goals.{in-Some+else-contains}
use Rattle.stun_auth.proofs.client.challenge.find_first_supported.Goals.{in_default}

pub returns-then-contains : goal.returns-then-contains
returns-then-contains c =
    let passes : IntegrityAlgorithm → Bool = λ a. has a (in_order c.args.supported) in
    let here = sym c.get.ensures ∙ c.in-Some.is in
    let yes : passes (integrity_of c.in-Some.algorithm) ≡ true =
    ap passes (sym c.as_integrity-integrity.ensures) ∙ sym c.contains.ensures
    ∙ c.if-contains.true in
    ap (λ a. Some a) c.as_integrity-integrity.ensures
    ∙ sym (find-at passes integrity_of c.args.list.now c.loop-i.i c.in-Some.algorithm here yes)
    ∙ sym c.loop-i.invariant

pub loop-i-preserved : goal.loop-i-preserved
loop-i-preserved c =
    let passes : IntegrityAlgorithm → Bool = λ a. has a (in_order c.args.supported) in
    elim c.match-get.branch [
      | in-Some+else-contains w ↦
          let here = sym c.get.ensures ∙ w.in-Some.is in
          let no : passes (integrity_of w.in-Some.algorithm) ≡ false =
          ap passes (sym w.as_integrity-integrity.ensures) ∙ sym w.contains.ensures
          ∙ w.if-contains.false in
          c.loop-i.invariant
          ∙ find-past passes integrity_of c.args.list.now c.loop-i.i w.in-Some.algorithm here no
      | in_default w ↦
          let past = sym c.get.ensures ∙ w.in_default.is in
          c.loop-i.invariant
          ∙ ap (λ others. find passes (map integrity_of others))
          (drop-past c.args.list.now c.loop-i.i past)
    ]
