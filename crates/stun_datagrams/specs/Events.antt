-- The events at a server, which are changes of its users and arrivals of datagrams, and the outcome
-- of each datagram (RFC 8489, sections 6.3 and 9.2.4).
use Rattle.std.specs.Prelude.{ℕ, List, [], ◌∷◌, Bool, true, if◌then◌else◌, Option, Some, None}
use Rattle.std.specs.Prelude.{string_bytes}
use Rattle.std.specs.FinMap as fin
use Rattle.std.specs.Global.{Vec}
use Rattle.std.specs.declared.alloc.Global.{Global}
use Rattle.std.specs.declared.string.String.{String}
use Rattle.std.specs.declared.net.socket_addr.SocketAddr.{SocketAddr}
use Rattle.std.specs.declared.result.Result.{Result}
use Rattle.stun_base.specs.Address.{same_address}
use Rattle.stun_judging.specs.Reading.{reading_of}
use Rattle.stun_judging.specs.Registered.{UserSecret, name_cmp, of_password}
use Rattle.stun_judging.specs.Verdict.{ClientSeen}
use Rattle.stun_judging.specs.declared.refusal.VerdictRefusal.{VerdictRefusal}
use Rattle.stun_endpoint.specs.Judged.{Realm, judged}
use Rattle.stun_endpoint.specs.Lookups.{users_with}
use Rattle.stun_endpoint.specs.Received.{Outcome, received_by}
use Rattle.stun_endpoint.specs.Responding.{is_undropped_request}
use Rattle.stun_endpoint.specs.Settings.{Settings}

-- an event: a user is added with a password or gets a new password, the user with a name is
-- removed, or a datagram arrives, with its source, its time and its bytes
pub data ServerEvent : Type 0 where
  UserAdded : String Global → String Global → ServerEvent
  UserRemoved : String Global → ServerEvent
  Arrived : SocketAddr → ℕ → Vec ℕ → ServerEvent

-- ---- users

-- the users of a server: the password or the stored keys of each, by name
abbrev pub UserSecrets : Type 0
UserSecrets = fin.FinMap name_cmp UserSecret

-- the users after an event
abbrev pub users_after_event : UserSecrets → ServerEvent → UserSecrets
users_after_event users (UserAdded name password) =
    fin.insert users (string_bytes name) (of_password (string_bytes password))
users_after_event users (UserRemoved name) = fin.remove users (string_bytes name)
users_after_event users (Arrived from now message) = users

abbrev pub users_after : UserSecrets → List ServerEvent → UserSecrets
users_after users [] = users
users_after users (e ∷ later) = users_after (users_after_event users e) later

-- what a server judges by if these are its users: all but the users is as its settings say
abbrev pub realm_with : Settings → UserSecrets → Realm
realm_with s users =
    record { users = users_with s users; feature = s.feature; offered = s.algorithms }

-- ---- the outcome of each event: none, if it is not a datagram

abbrev pub outcome_of_event : Settings → UserSecrets → ServerEvent → Option Outcome
outcome_of_event s users (UserAdded name password) = None
outcome_of_event s users (UserRemoved name) = None
outcome_of_event s users (Arrived from now message) =
    Some (received_by s (realm_with s users) from now message.items)

abbrev pub outcomes : Settings → UserSecrets → List ServerEvent → List (Option Outcome)
outcomes s users [] = []
outcomes s users (e ∷ later) =
    outcome_of_event s users e ∷ outcomes s (users_after_event users e) later

-- the verdict on a datagram, if it is a request that is not dropped: the client that it is accepted
-- from, or the reason for which it is refused
abbrev pub RequestVerdict : Type 0
RequestVerdict = Result ClientSeen VerdictRefusal

abbrev pub verdict_of_event : Settings → UserSecrets → ServerEvent → Option RequestVerdict
verdict_of_event s users (UserAdded name password) = None
verdict_of_event s users (UserRemoved name) = None
verdict_of_event s users (Arrived from now message) =
    if is_undropped_request s.requires_fingerprint message.items
    then Some (judged s (realm_with s users) from now (reading_of message.items)) else None

abbrev pub verdicts : Settings → UserSecrets → List ServerEvent → List (Option RequestVerdict)
verdicts s users [] = []
verdicts s users (e ∷ later) =
    verdict_of_event s users e ∷ verdicts s (users_after_event users e) later

-- ---- one source

-- whether an event is a datagram of a source, or changes the users
abbrev pub is_of_source : SocketAddr → ServerEvent → Bool
is_of_source a (UserAdded name password) = true
is_of_source a (UserRemoved name) = true
is_of_source a (Arrived from now message) = same_address from a

-- the datagrams of a source and all changes of the users, in their order
abbrev pub own_events : SocketAddr → List ServerEvent → List ServerEvent
own_events a [] = []
own_events a (e ∷ later) = if is_of_source a e then e ∷ own_events a later else own_events a later

-- their outcomes
abbrev pub own_outcomes : SocketAddr → List ServerEvent → List (Option Outcome)
    → List (Option Outcome)
own_outcomes a [] given = []
own_outcomes a (e ∷ later) [] = []
own_outcomes a (e ∷ later) (o ∷ given) =
    if is_of_source a e then o ∷ own_outcomes a later given else own_outcomes a later given
