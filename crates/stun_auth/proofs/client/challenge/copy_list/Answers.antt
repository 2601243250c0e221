-- The algorithm of the index is copied after those before it.
use Rattle.std.proofs.Common.{[], ◌∷◌, ◌++◌, ◌∙◌, ap, sym}
use Rattle.stun_judging.proofs.ListSteps.{take-at, take-past}
use Rattle.stun_auth.proofs.client.challenge.copy_list.Goals as goal
use Rattle.stun_auth.proofs.client.challenge.copy_list.Goals.{in-Some+in_ok-push, in_default}

pub loop-i-preserved : goal.loop-i-preserved
loop-i-preserved g c =
    elim c.match-get.branch [
      | in-Some+in_ok-push w ↦
          let here = sym c.get.ensures ∙ w.in-Some.is in
          ap (λ v. v.items) w.copy-is ∙ w.in_ok-push.ensures.ok
          ∙ ap (λ before. before ++ w.in-Some.algorithm ∷ []) c.loop-i.invariant
          ∙ sym (take-at c.args.list.now c.loop-i.i w.in-Some.algorithm here)
      | in_default w ↦
          let past = sym c.get.ensures ∙ w.in_default.is in
          ap (λ v. v.items) w.copy-is ∙ c.loop-i.invariant
          ∙ sym (take-past c.args.list.now c.loop-i.i past)
    ]
