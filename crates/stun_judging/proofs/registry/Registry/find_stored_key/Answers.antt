-- The user is found by name, and its keys are those that were made for it.
use Rattle.std.proofs.Common.{◌∙◌, ap, Some, None}
use Rattle.std.specs.String.{string_bytes}
use Rattle.stun_judging.specs.declared.algorithm_set.AlgorithmSet.TheVariants.{Both}
use Rattle.stun_judging.specs.Registered.{key_at}
use Rattle.stun_judging.proofs.UserMaps.{key_found}
use Rattle.stun_judging.proofs.registry.Registry.find_stored_key.Goals as goal

pub returns-in-Some : goal.returns-in-Some
returns-in-Some g c =
    let r = c.self.inside in
    c.find_key.ensures
    ∙ key_found (string_bytes r.realm) r.users c.args.name.now c.args.algorithm
    (Some c.in-Some.user.now) c.in-Some.ensures.value c.self.invariant.0
    ∙ ap (λ s. key_at (record s { algorithms = Both }) c.args.name.now c.args.algorithm)
    c.self.view_is

pub returns-in-None : goal.returns-in-None
returns-in-None g c =
    let r = c.self.inside in
    key_found (string_bytes r.realm) r.users c.args.name.now c.args.algorithm None
    c.in-None.ensures.value c.self.invariant.0
    ∙ ap (λ s. key_at (record s { algorithms = Both }) c.args.name.now c.args.algorithm)
    c.self.view_is
