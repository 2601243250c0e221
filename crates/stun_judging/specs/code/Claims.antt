-- The user whom a message names, as the code uses it.
use Rattle.std.specs.Prelude.{◌≡◌, ℕ, List, if◌then◌else◌, Option, Some, None}
use Rattle.stun_judging.specs.declared.feature.Feature.{Feature}
use Rattle.stun_judging.specs.declared.named_user.NamedUser.{NamedUser}
use Rattle.stun_judging.specs.declared.named_user.NamedUser.TheVariants.{ByName, ByHash}
use Rattle.stun_judging.specs.Feature.{is_possible}
use Rattle.stun_judging.specs.Reading.{Reading}
use Rattle.stun_judging.specs.Registered.{Registered, name_with_hash}

-- the name of the user who is named, whether that user is registered or not
abbrev pub name_of : Registered → Feature → NamedUser → Option (List ℕ)
name_of users feature (ByName name) = Some name.now
name_of users feature (ByHash hash) =
    if is_possible feature then name_with_hash users hash else None

-- the name in a message, whether that user is registered or not
abbrev pub name_by : Option (List ℕ) → Option (List ℕ) → Registered → Feature → Option (List ℕ)
name_by (Some hash) username users feature =
    if is_possible feature then name_with_hash users hash else None
name_by None username users feature = username

abbrev pub name_in : Registered → Feature → Reading → Option (List ℕ)
name_in users feature r = name_by r.userhash r.username users feature

-- a message names this user: at each server the name is that of the message
abbrev pub IsNamed : Reading → NamedUser → Type 0
IsNamed r user =
    (users : Registered) (feature : Feature) → name_of users feature user ≡ name_in users feature r
