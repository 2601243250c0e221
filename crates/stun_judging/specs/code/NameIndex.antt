-- The names of a realm by their hash (RFC 8489, section 14.4).
use Rattle.std.specs.Prelude.{◌≡◌, ℕ, List, map, true, false, ◌&&◌, Option, Some, None, String}
use Rattle.std.specs.declared.cmp.Ordering.{Ordering}
use Rattle.std.specs.Ordering.{is_gt, ordering_then}
use Rattle.std.specs.Coded.{Coded, coded×, coded_ℕ, coded_list}
use Rattle.std.specs.FinMap as fin
use Rattle.std.specs.FinSet as set
use Rattle.std.specs.Str.{bytes_eq}
use Rattle.std.specs.String.{string_bytes}
use Rattle.stun_base.specs.Keys.{userhash_of}
use Rattle.stun_judging.specs.Registered.{UserSecret, name_cmp}

-- pairs of a hash and a name are ordered by the hash and then by the name
abbrev pub hashed_cmp : List ℕ × List ℕ → List ℕ × List ℕ → Ordering
hashed_cmp x y = ordering_then (name_cmp x.0 y.0) (name_cmp x.1 y.1)

abbrev pub coded_hashed : Coded (List ℕ × List ℕ)
coded_hashed = coded× (coded_list coded_ℕ) (coded_list coded_ℕ)

abbrev pub HashedNames : Type 0
HashedNames = set.FinSet hashed_cmp

-- a hash and a name as they are stored
abbrev pub hashed_seen : {A : Type 0} → List ℕ × String A → List ℕ × List ℕ
hashed_seen pair = (pair.0, string_bytes pair.1)

abbrev pub names_hashed : {A : Type 0} → List (List ℕ × String A) → HashedNames
names_hashed pairs = set.from_list (map hashed_seen pairs)

-- the least name with a hash, or none if no name has it
abbrev pub IsLeastNamed : HashedNames → List ℕ → Option (List ℕ) → Type 0
IsLeastNamed names hash None = (name : List ℕ) → set.contains names (hash, name) ≡ false
IsLeastNamed names hash (Some least) =
    (set.contains names (hash, least) ≡ true)
    × ((name : List ℕ) → set.contains names (hash, name) ≡ true
    → is_gt (name_cmp least name) ≡ false)

-- the names are those of the registered users, each with its hash at the realm
abbrev pub IsNameIndexOf : List ℕ → fin.FinMap name_cmp UserSecret → HashedNames → Type 0
IsNameIndexOf realm secrets names =
    (hash name : List ℕ) → set.contains names (hash, name)
    ≡ (bytes_eq hash (userhash_of name realm) && fin.contains_key secrets name)
