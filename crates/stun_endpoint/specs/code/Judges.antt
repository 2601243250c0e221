-- The users whom the code was passed.
use Rattle.std.specs.Prelude.{Option, Some, None}
use Rattle.stun_judging.specs.Registered.{Registered}
use Rattle.stun_endpoint.specs.Judged.{Realm, realm_of_user}
use Rattle.stun_endpoint.specs.Settings.{Settings}
use Rattle.stun_endpoint.specs.declared.server.judges.Judges.{Judges}
use Rattle.stun_endpoint.specs.declared.server.judges.Judges.TheVariants.{Table, User, Nobody}

abbrev pub users_of : {A : Type 0} → Judges A → Option Registered
users_of (Table table) = Some table.now.registered
users_of (User user) = Some user.now
users_of Nobody = None

-- what a server judges a request by
abbrev pub realm_of : {A : Type 0} → Settings → Judges A → Realm
realm_of s judges = realm_of_user s (users_of judges)
