-- Users and index get the name together; where an allocation fails for the user the index loses it
-- again.
use Rattle.std.proofs.Common.{◌≡◌, List, String, sym, ◌∙◌, ap, subst, false, rules}
use Rattle.std.specs.Option.{is_some, option_map}
use Rattle.std.specs.FinMap as map
use Rattle.std.specs.FinSet as set
use Rattle.std.specs.String.{string_bytes}
use Rattle.stun_base.specs.Keys.{userhash_of}
use Rattle.stun_judging.specs.code.NameIndex.{HashedNames, IsNameIndexOf}
use Rattle.stun_judging.specs.Registered.{Registered}
use Rattle.stun_judging.specs.code.Users.{HasKeys, secret_of, secrets_seen}
use Rattle.stun_judging.specs.declared.registry.User.{User}
use Rattle.stun_judging.proofs.LeastNames.{index_after_add, index_undone}
use Rattle.stun_judging.proofs.UserMaps.{get-secrets_seen, keys_after_add}
use Rattle.stun_judging.proofs.UserMaps.{keys_where_same, secrets_seen-inserted}
use Rattle.stun_judging.proofs.registry.Registry.insert.Goals as goal

pub invariant_of-self-in-Ok : goal.invariant_of-self-in-Ok
invariant_of-self-in-Ok g c =
    let r = c.self.inside in
    let realm = string_bytes r.realm in
    let name = string_bytes c.args.name in
    let keys : HasKeys realm name c.in_ok-user.user =
    subst (λ n. HasKeys realm n c.in_ok-user.user) c.as_str.ensures.value
    (subst (λ n. HasKeys n c.as_str.result.now c.in_ok-user.user)
    c.as_str-realm.ensures.value c.in_ok-user.ensures.keys) in
    let hash : c.userhash-hash.result ≡ userhash_of name realm = c.userhash-hash.ensures
    ∙ (λ i. userhash_of (c.as_str-2.ensures.value i) (c.as_str-3.ensures.value i)) in
    let copied : string_bytes c.in_ok-text.field-0 ≡ name = search rules in (
      keys_after_add realm r.users c.put_user.new.users name c.in_ok-user.user
          c.in-Ok.ensures.ok keys c.self.invariant.0,
      index_after_add realm name (secrets_seen r.users.entries) r.hashed c.self.invariant.1
          c.userhash-hash.result (string_bytes c.in_ok-text.field-0) hash copied
          (secret_of c.in_ok-user.user) (secrets_seen c.put_user.new.users.entries)
          c.insert.new.self
          (secrets_seen-inserted r.users c.put_user.new.users name c.in_ok-user.user
          c.in-Ok.ensures.ok) c.in_ok-insert.ensures.ok,
    )

pub invariant_of-self-in-Err : goal.invariant_of-self-in-Err
invariant_of-self-in-Err g c =
    let r = c.self.inside in
    let realm = string_bytes r.realm in
    let name = string_bytes c.args.name in
    let hash : c.userhash-hash.result ≡ userhash_of name realm = c.userhash-hash.ensures
    ∙ (λ i. userhash_of (c.as_str-2.ensures.value i) (c.as_str-3.ensures.value i)) in
    let copied : string_bytes c.in_ok-text.field-0 ≡ name = search rules in
    let absent : map.contains_key (secrets_seen r.users.entries) name ≡ false =
    ap is_some
    (get-secrets_seen r.users name
    ∙ ap (option_map (λ (u : User g.row.A.Denot). secret_of u)) c.in-Err.ensures.absent) in
    let undone : c.remove.new.self ≡ r.hashed =
    index_undone realm name (secrets_seen r.users.entries) r.hashed c.self.invariant.1
    c.userhash-hash.result (string_bytes c.in_ok-text.field-0) hash copied
    c.insert.new.self c.remove.new.self absent c.in_ok-insert.ensures.ok
    (c.remove.ensures
    ∙ ap (λ (n : String g.row.A.Denot). set.remove c.insert.new.self (
      c.userhash-hash.result,
      string_bytes n,
    )) c.in-Err.ensures.refused) in (
      keys_where_same realm c.put_user.new.users r.users.entries c.in-Err.ensures.same
          c.self.invariant.0,
      subst (λ (es : List (String g.row.A.Denot × User g.row.A.Denot)).
          IsNameIndexOf realm (secrets_seen es) c.remove.new.self) (sym c.in-Err.ensures.same)
          (subst (λ (names : HashedNames). IsNameIndexOf realm (secrets_seen r.users.entries) names)
          (sym undone) c.self.invariant.1),
    )

pub returns-in-Ok-clause-ok : goal.returns-in-Ok-clause-ok
returns-in-Ok-clause-ok g c =
    let r = c.self.inside in
    ap (λ m. record { realm = string_bytes r.realm; algorithms = r.supported; secrets = m })
    (secrets_seen-inserted r.users c.put_user.new.users (string_bytes c.args.name) c.in_ok-user.user
    c.in-Ok.ensures.ok)
    ∙ ap (λ (s : Registered).
    record s
    { secrets = map.insert s.secrets (string_bytes c.args.name) (secret_of c.in_ok-user.user) })
    c.self.view_is
    ∙ ap (λ p.
    record c.args.self.now
    { secrets = map.insert c.args.self.now.secrets (string_bytes c.args.name) p })
    c.in_ok-user.ensures.secret
