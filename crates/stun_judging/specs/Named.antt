-- The user whom a message names, and a realm with only one user (RFC 8489, section 9.2.4).
use Rattle.std.specs.Prelude.{◌≡◌, ℕ, List, if◌then◌else◌, true, Option, Some, None}
use Rattle.std.specs.Option.{option_map}
use Rattle.std.specs.FinMap as map
use Rattle.stun_base.specs.Credentials.{NameAndPassword}
use Rattle.stun_base.specs.Keys.{long_term_key}
use Rattle.stun_base.specs.declared.keys.algorithm.IntegrityAlgorithm.{IntegrityAlgorithm}
use Rattle.stun_judging.specs.declared.feature.Feature.{Feature}
use Rattle.stun_judging.specs.declared.named_user.NamedUser.{NamedUser}
use Rattle.stun_judging.specs.declared.named_user.NamedUser.TheVariants.{ByName, ByHash}
use Rattle.stun_judging.specs.declared.stored_keys.StoredKeys.{StoredKeys}
use Rattle.stun_judging.specs.Algorithms.{contains}
use Rattle.stun_judging.specs.Feature.{is_possible}
use Rattle.stun_judging.specs.Registered.{Registered, RegisteredUser, UserSecret, name_cmp}
use Rattle.stun_judging.specs.Registered.{stored_key, user_named, user_with_hash}

-- a user by name, or by the hash of a name at the realm
pub data Named : Type 0 where
  by_name : List ℕ → Named
  by_hash : List ℕ → Named

-- the user whom `NamedUser` names
abbrev pub named_seen : NamedUser → Named
named_seen (ByName name) = by_name name.now
named_seen (ByHash hash) = by_hash hash

-- the user whom a request or an indication names: by a hash, if hashes are accepted, or else by
-- name
abbrev pub named_in : Option (List ℕ) → Option (List ℕ) → Feature → Option Named
named_in (Some hash) username feature = if is_possible feature then Some (by_hash hash) else None
named_in None username feature = option_map by_name username

-- the registered user who is meant
abbrev pub user_of : Registered → Named → Option RegisteredUser
user_of users (by_name name) = user_named users name
user_of users (by_hash hash) = user_with_hash users hash

-- ---- a server with other users

-- these users alone: one, or nobody
abbrev pub only_user : Option RegisteredUser → map.FinMap name_cmp UserSecret
only_user None = map.empty
only_user (Some user) = map.insert map.empty user.username user.secret

-- the realm with its algorithms and only this user, or nobody
abbrev pub just : Registered → Option RegisteredUser → Registered
just users user = record users { secrets = only_user user }

-- the keys are those that a user's password makes at the realm, for each supported algorithm
abbrev pub AreKeysOf : Registered → NameAndPassword → StoredKeys → Type 0
AreKeysOf users user keys =
    (a : IntegrityAlgorithm) → contains a users.algorithms ≡ true
    → stored_key keys a ≡ Some (long_term_key a user.username users.realm user.password)
