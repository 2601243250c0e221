-- A realm: its users, its algorithms, and whether clients may name a user by a hash (RFC 8489,
-- section 9.2).
use Rattle.stun_judging.specs.declared.feature.Feature.{Feature}
use Rattle.stun_judging.specs.Registered.{Registered}

-- the users with the realm and the supported algorithms, and whether names may be hashed
pub record RealmSeen : Type 0 where
  pub registered : Registered
  pub feature : Feature

-- the realm with other users in place of its own
abbrev pub with_registered : RealmSeen → Registered → RealmSeen
with_registered realm users = record realm { registered = users }
