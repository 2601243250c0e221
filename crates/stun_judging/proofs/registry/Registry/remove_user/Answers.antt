-- Users and index lose the name together.
use Rattle.std.proofs.Common.{◌≡◌, ◌∙◌, ap}
use Rattle.std.specs.FinMap as map
use Rattle.std.specs.String.{string_bytes}
use Rattle.stun_base.specs.Keys.{userhash_of}
use Rattle.stun_judging.specs.Registered.{Registered}
use Rattle.stun_judging.specs.code.Users.{secrets_seen}
use Rattle.stun_judging.proofs.LeastNames.{index_after_remove}
use Rattle.stun_judging.proofs.UserMaps.{secrets_seen-removed, keys_after_remove}
use Rattle.stun_judging.proofs.registry.Registry.remove_user.Goals as goal

pub invariant_of-self : goal.invariant_of-self
invariant_of-self g c =
    let r = c.self.inside in
    let realm = string_bytes r.realm in
    let name = c.args.name.now in
    let kept : string_bytes c.in-Some.name ≡ name = c.in-Some.ensures.name in
    let hash : c.userhash-hash.result ≡ userhash_of name realm =
    c.userhash-hash.ensures
    ∙ (λ i. userhash_of ((c.as_str.ensures.value ∙ kept) i) (c.as_str-in-Some.ensures.value i)) in (
      keys_after_remove realm r.users c.take_user.new.users name
          c.take_user.ensures.updates c.self.invariant.0,
      index_after_remove realm name (secrets_seen r.users.entries) r.hashed c.self.invariant.1
          c.userhash-hash.result (string_bytes c.in-Some.name) hash kept
          (secrets_seen c.take_user.new.users.entries) c.remove.new.self
          (secrets_seen-removed r.users c.take_user.new.users name c.take_user.ensures.updates)
          c.remove.ensures,
    )

pub returns-in-Some : goal.returns-in-Some
returns-in-Some g c =
    let r = c.self.inside in
    ap (λ m. record { realm = string_bytes r.realm; algorithms = r.supported; secrets = m })
    (secrets_seen-removed r.users c.take_user.new.users c.args.name.now c.take_user.ensures.updates)
    ∙ ap (λ (s : Registered). record s { secrets = map.remove s.secrets c.args.name.now })
    c.self.view_is

pub returns-in_default : goal.returns-in_default
returns-in_default g c =
    let r = c.self.inside in
    ap (λ m. record { realm = string_bytes r.realm; algorithms = r.supported; secrets = m })
    (secrets_seen-removed r.users c.take_user.new.users c.args.name.now c.take_user.ensures.updates)
    ∙ ap (λ (s : Registered). record s { secrets = map.remove s.secrets c.args.name.now })
    c.self.view_is
