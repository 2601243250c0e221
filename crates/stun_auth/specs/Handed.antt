-- A user who is passed with a message, for a server that stores no list of its users (RFC 8489,
-- section 9.2.4).
use Rattle.std.specs.Prelude.{if◌then◌else◌, Option, Some}
use Rattle.std.specs.Option.{option_and_then, option_map}
use Rattle.std.specs.declared.net.socket_addr.SocketAddr.{SocketAddr}
use Rattle.stun_base.specs.MessageType.{is_response}
use Rattle.stun_judging.specs.Reading.{Reading}
use Rattle.stun_judging.specs.Registered.{Registered, RegisteredUser}
use Rattle.stun_judging.specs.Verdict.{ClientSeen}
use Rattle.stun_auth.specs.Seen.{PlaceSeen}
use Rattle.stun_auth.specs.Server.{Sight}
use Rattle.stun_auth.specs.Validation.{ServerSeen, sight}
use Rattle.stun_judging.specs.Named.{Named, by_name, named_in, user_of, just}

-- the client of a record
abbrev pub named_at : Option PlaceSeen → Option Named
named_at place =
    option_map (λ (c : ClientSeen). by_name c.name)
    (option_and_then (λ (p : PlaceSeen). p.client) place)

-- the user whose key is used to verify a message: for a response the client of its address, for all
-- others the user whom it names
abbrev pub judged_by : Sight → Reading → Option Named
judged_by s r =
    if is_response r.class then named_at s.place else named_in r.userhash r.username s.feature

-- the one user whom a message means, if registered
abbrev pub meant_user : ServerSeen → SocketAddr → Reading → Option RegisteredUser
meant_user s from r = option_and_then (user_of s.registered) (judged_by (sight s from) r)

-- the server with other users in place of its own
abbrev pub with_users : ServerSeen → Registered → ServerSeen
with_users s users = record s { registered = users }

-- the server with one user in place of its own
abbrev pub with_just : ServerSeen → RegisteredUser → ServerSeen
with_just s user = with_users s (just s.registered (Some user))
