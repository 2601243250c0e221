-- The same realm with another password of one user: the outcome of a datagram there reveals nothing
-- of the password (RFC 8489, section 9.2.4).
use Rattle.std.specs.Prelude.{ℕ, List, Option}
use Rattle.stun_judging.specs.OtherUsers.{with_secret_for}
use Rattle.stun_judging.specs.Registered.{UserSecret}
use Rattle.stun_endpoint.specs.Judged.{Realm}

-- a realm whose user of a name has this password or these keys, or that has no user of this name
abbrev pub with_secret_at : Realm → List ℕ → Option UserSecret → Realm
with_secret_at realm name secret =
    record realm { users = with_secret_for realm.users name secret }
