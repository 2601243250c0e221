-- The users of a realm and their keys (RFC 8489, sections 9.2.2 and 14.4).
use Rattle.std.specs.Prelude.{ℕ, List, Bool, Option, Some, None, if◌then◌else◌}
use Rattle.std.specs.Option.{option_map, option_and_then}
use Rattle.std.specs.List.{find}
use Rattle.std.specs.Str.{bytes_eq}
use Rattle.std.specs.Ordering.{nat_cmp}
use Rattle.std.specs.declared.cmp.Ordering.{Ordering}
use Rattle.std.specs.Cmp.Lexicographic.{slice_cmp}
use Rattle.std.specs.FinMap as map
use Rattle.stun_base.specs.declared.keys.algorithm.IntegrityAlgorithm.{IntegrityAlgorithm}
use Rattle.stun_base.specs.declared.keys.algorithm.IntegrityAlgorithm.TheVariants.{Sha1, Sha256}
use Rattle.stun_base.specs.Credentials.{NameAndPassword}
use Rattle.stun_base.specs.Keys.{long_term_key, userhash_of}
use Rattle.stun_judging.specs.declared.algorithm_set.AlgorithmSet.{AlgorithmSet}
use Rattle.stun_judging.specs.declared.stored_keys.StoredKeys.{StoredKeys}
use Rattle.stun_judging.specs.Algorithms.{contains, only}

-- names are ordered by their bytes
abbrev pub name_cmp : List ℕ → List ℕ → Ordering
name_cmp = slice_cmp nat_cmp

-- the secret of a user: a password, or the keys that were made from one and stored
pub data UserSecret : Type 0 where
  of_password : List ℕ → UserSecret
  of_keys : StoredKeys → UserSecret

-- a registered user
pub record RegisteredUser : Type 0 where
  pub username : List ℕ
  pub secret : UserSecret

-- the user with a password
abbrev pub user_by_password : NameAndPassword → RegisteredUser
user_by_password user = record { username = user.username; secret = of_password user.password }

-- the user of a name with stored keys
abbrev pub user_by_keys : List ℕ → StoredKeys → RegisteredUser
user_by_keys name keys = record { username = name; secret = of_keys keys }

-- the realm, the supported algorithms, and the secret of each registered user
pub record Registered : Type 0 where
  pub realm : List ℕ
  pub algorithms : AlgorithmSet
  pub secrets : map.FinMap name_cmp UserSecret

-- a realm without users
abbrev pub empty_realm : List ℕ → AlgorithmSet → Registered
empty_realm realm algorithms =
    record { realm = realm; algorithms = algorithms; secrets = map.empty }

-- a realm without users, with HMAC-SHA1 alone
abbrev pub new_registered : List ℕ → Registered
new_registered realm = empty_realm realm (only Sha1)

-- the users with one more, or with another password for one of them
abbrev pub with_user : Registered → NameAndPassword → Registered
with_user r user =
    record r { secrets = map.insert r.secrets user.username (of_password user.password) }

-- the users with one more who has stored keys, or with these keys for one of them
abbrev pub with_user_by_keys : Registered → List ℕ → StoredKeys → Registered
with_user_by_keys r name keys =
    record r { secrets = map.insert r.secrets name (of_keys keys) }

-- the users without the one of a name
abbrev pub without_user : Registered → List ℕ → Registered
without_user r name = record r { secrets = map.remove r.secrets name }

-- the users of a table at a realm. Of the table only the users count: the algorithms are those of the
-- realm. A user's keys depend on the name of the realm, so nobody in a table of another realm is a
-- user here
abbrev pub at_realm : Registered → Registered → Registered
at_realm realm users = record realm {
  secrets = if bytes_eq users.realm realm.realm then users.secrets else map.empty;
}

-- the realm without its users
abbrev pub without_users : Registered → Registered
without_users r = record r { secrets = map.empty }

-- the registered user of a name
abbrev pub user_named : Registered → List ℕ → Option RegisteredUser
user_named r name =
    option_map (λ secret. record { username = name; secret = secret }) (map.get r.secrets name)

-- the name of the first registered user, in the order of names, that has this hash
abbrev pub name_with_hash : Registered → List ℕ → Option (List ℕ)
name_with_hash r hash = find (λ name. bytes_eq (userhash_of name r.realm) hash) (map.keys r.secrets)

-- the first registered user, in the order of names, that has this hash
abbrev pub user_with_hash : Registered → List ℕ → Option RegisteredUser
user_with_hash r hash = option_and_then (user_named r) (name_with_hash r hash)

-- the key that is stored for an algorithm, if one is
abbrev pub stored_key : StoredKeys → IntegrityAlgorithm → Option (List ℕ)
stored_key keys Sha1 = keys.sha1
stored_key keys Sha256 = keys.sha256

-- the key for an algorithm that the user with this name and this secret has at a realm: derived
-- from the password, or the stored key
abbrev pub key_from : IntegrityAlgorithm → List ℕ → List ℕ → UserSecret → Option (List ℕ)
key_from a name realm (of_password password) = Some (long_term_key a name realm password)
key_from a name realm (of_keys keys) = stored_key keys a

-- the key for an algorithm, if it is supported
abbrev pub key_if : Bool → IntegrityAlgorithm → List ℕ → List ℕ → UserSecret → Option (List ℕ)
key_if supported a name realm secret = if supported then key_from a name realm secret else None

-- the key that a user has for an algorithm: the key from the user's secret if the algorithm is
-- supported, and otherwise none
abbrev pub key_of : Registered → RegisteredUser → IntegrityAlgorithm → Option (List ℕ)
key_of r user a = key_if (contains a r.algorithms) a user.username r.realm user.secret

-- the key that the registered user of a name has for an algorithm
abbrev pub key_at : Registered → List ℕ → IntegrityAlgorithm → Option (List ℕ)
key_at r name a = option_and_then (λ user. key_of r user a) (user_named r name)
