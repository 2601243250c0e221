-- There are no users, and the index has no name.
use Rattle.std.proofs.Common.{List, [], String, ap, subst, sym}
use Rattle.std.specs.FinMap as fin
use Rattle.std.specs.String.{string_bytes}
use Rattle.stun_judging.specs.code.NameIndex.{HashedNames, IsNameIndexOf}
use Rattle.stun_judging.specs.declared.registry.User.{User}
use Rattle.stun_judging.specs.code.Users.{secrets_seen}
use Rattle.stun_judging.proofs.LeastNames.{Secrets, indexed_none}
use Rattle.stun_judging.proofs.UserMaps.{keys_where_same}
use Rattle.stun_judging.proofs.registry.Registry.new.Goals as goal

pub invariant_of-result : goal.invariant_of-result
invariant_of-result g c =
    let realm = string_bytes c.args.realm in (
      keys_where_same realm c.new.result [] c.new.ensures.empty (λ name. tt),
      subst (λ (secrets : Secrets). IsNameIndexOf realm secrets c.new-2.result)
          (sym (ap (λ (es : List (String g.row.A.Denot × User g.row.A.Denot)). secrets_seen es)
          c.new.ensures.empty))
          (subst (λ (names : HashedNames). IsNameIndexOf realm fin.empty names)
          (sym c.new-2.ensures)
          (indexed_none realm)),
    )
