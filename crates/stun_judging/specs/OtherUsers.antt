-- A change of one user, and the messages that mean another user or verify under none of the user's
-- keys (RFC 8489, section 9.2.4).
use Rattle.std.specs.Prelude.{◌≡◌, ◌≢◌, ℕ, List, Option, Some, None, ⊤}
use Rattle.std.specs.FinMap as map
use Rattle.stun_base.specs.Keys.{userhash_of}
use Rattle.stun_base.specs.declared.keys.algorithm.IntegrityAlgorithm.{IntegrityAlgorithm}
use Rattle.stun_judging.specs.Named.{Named, by_name, by_hash}
use Rattle.stun_judging.specs.Reading.{Reading, verified_under}
use Rattle.stun_judging.specs.Registered.{Registered, UserSecret, key_from, name_cmp}

-- the secrets of the users, with another secret for one name, or without it
abbrev pub secrets_with : map.FinMap name_cmp UserSecret → List ℕ → Option UserSecret
    → map.FinMap name_cmp UserSecret
secrets_with secrets name None = map.remove secrets name
secrets_with secrets name (Some secret) = map.insert secrets name secret

-- the users after one of them was added, got another secret, or was removed
abbrev pub with_secret_for : Registered → List ℕ → Option UserSecret → Registered
with_secret_for users name secret =
    record users { secrets = secrets_with users.secrets name secret }

-- the named user is not the one with this name: the message has another name, or a hash that is not
-- that of the name
abbrev pub IsAnother : Registered → List ℕ → Named → Type 0
IsAnother users name (by_name other) = other ≢ name
IsAnother users name (by_hash hash) = userhash_of name users.realm ≢ hash

-- no user is meant, or another one
abbrev pub MeansAnother : Registered → List ℕ → Option Named → Type 0
MeansAnother users name None = ⊤
MeansAnother users name (Some who) = IsAnother users name who

-- a message verifies under no key that a secret makes for the user of a name
abbrev pub VerifiesUnderNone : Registered → List ℕ → UserSecret → Reading → Type 0
VerifiesUnderNone users name secret r =
    (a : IntegrityAlgorithm) (key : List ℕ) → key_from a name users.realm secret ≡ Some key
    → verified_under r key ≡ None
