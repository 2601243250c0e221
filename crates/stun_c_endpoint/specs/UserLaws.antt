-- The statements of the laws over tables of users (RFC 8489, section 9.2.2).
use Rattle.std.specs.Prelude.{◌≡◌, ◌≢◌, ◌≤◌, ◌⊎◌, ℕ, List, true, length, if◌then◌else◌, Option}
use Rattle.std.specs.Prelude.{Some, None}
use Rattle.std.specs.FinMap as map
use Rattle.std.specs.Str.{is_utf8}
use Rattle.stun_judging.specs.Algorithms.{contains}
use Rattle.stun_judging.specs.Registered.{Registered, key_at}
use Rattle.stun_base.specs.declared.keys.algorithm.IntegrityAlgorithm.{IntegrityAlgorithm}
use Rattle.stun_endpoint.specs.ShortTerm.{Keys}

-- a name of a user that a message can carry (section 14.3)
pub record IsName (name : List ℕ) : Type 0 where
  pub text : is_utf8 name ≡ true
  pub some : length name ≢ 0
  pub short : length name ≤ 513

-- a table differs from another one by one user: that user has this key for each algorithm of the
-- realm, and all others have the keys that they had before
pub record HasUser (before after : Registered) (name : List ℕ)
    (key : IntegrityAlgorithm → Option (List ℕ)) : Type 0 where
  pub own : (a : IntegrityAlgorithm)
      → key_at after name a ≡ (if contains a before.algorithms then key a else None)
  pub others : (other : List ℕ) (a : IntegrityAlgorithm) → other ≢ name
      → key_at after other a ≡ key_at before other a
  pub realm : after.realm ≡ before.realm
  pub algorithms : after.algorithms ≡ before.algorithms

-- a table does so for users with short-term credentials, each of whom has one key
pub record HasKey (before after : Keys) (name : List ℕ) (key : Option (List ℕ)) : Type 0 where
  pub own : map.get after name ≡ key
  pub others : (other : List ℕ) → other ≢ name → map.get after other ≡ map.get before other

-- the key that a table stores if a caller passes a key of this many bytes: none for no bytes, and
-- otherwise the key itself, which has them all
abbrev pub IsKeyPassed : ℕ → List ℕ → Option (List ℕ) → Type 0
IsKeyPassed size key kept =
    ((length key ≡ 0) × (kept ≡ None)) ⊎ ((length key ≡ size) × (kept ≡ Some key))
