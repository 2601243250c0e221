-- The users of a registry as it stores them.
use Rattle.std.specs.Prelude.{◌≡◌, ℕ, List, map, Option, String}
use Rattle.std.specs.Option.{IfSome}
use Rattle.std.specs.FinMap as fin
use Rattle.std.specs.String.{string_bytes}
use Rattle.std.specs.BTreeMap.{BTreeMap, get_by_text}
use Rattle.stun_base.specs.declared.keys.algorithm.IntegrityAlgorithm.{IntegrityAlgorithm}
use Rattle.stun_base.specs.declared.keys.algorithm.IntegrityAlgorithm.TheVariants.{Sha1, Sha256}
use Rattle.stun_judging.specs.Registered.{UserSecret, name_cmp, key_from}
use Rattle.stun_judging.specs.declared.registry.User.{User}
use Rattle.stun_judging.specs.code.UserSecret.{secret_seen}

-- the secret of a user
abbrev pub secret_of : {A : Type 0} → User A → UserSecret
secret_of user = secret_seen user.kept.value.secret

-- the key that is stored for an algorithm
abbrev pub key_in : {A : Type 0} → User A → IntegrityAlgorithm → Option (List ℕ)
key_in user Sha1 = user.kept.value.sha1
key_in user Sha256 = user.kept.value.sha256

-- a user has the keys that the secret gives, for both algorithms
abbrev pub HasKeys : {A : Type 0} → List ℕ → List ℕ → User A → Type 0
HasKeys realm name user =
    (a : IntegrityAlgorithm) → key_in user a ≡ key_from a name realm (secret_of user)

-- each user has these keys
abbrev pub AllHaveKeys : {A B : Type 0} → List ℕ → BTreeMap (String A) (User B) → Type 0
AllHaveKeys realm users =
    (name : List ℕ) → IfSome (get_by_text users name) (HasKeys realm name)

-- the secret of each user, by name
abbrev pub secrets_seen : {A B : Type 0} → List (String A × User B) → fin.FinMap name_cmp UserSecret
secrets_seen entries = fin.from_entries (map (λ e. (string_bytes e.0, secret_of e.1)) entries)
