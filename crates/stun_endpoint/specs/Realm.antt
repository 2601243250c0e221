-- The realm of a server, and the table of its users.
use Rattle.std.specs.Prelude.{Bool, true, false}
use Rattle.stun_judging.specs.declared.feature.Feature.{Feature}
use Rattle.stun_judging.specs.declared.feature.Feature.TheVariants.{Auto, Disabled}
use Rattle.stun_judging.specs.Realm.{RealmSeen}
use Rattle.stun_endpoint.specs.Settings.{Settings, registered_of}

-- hashed names if the client asks for them, or never
abbrev pub feature_for : Bool → Feature
feature_for true = Auto
feature_for false = Disabled

-- the empty table of users of a server
abbrev pub table_of : Settings → RealmSeen
table_of s = record { registered = registered_of s; feature = s.feature }
