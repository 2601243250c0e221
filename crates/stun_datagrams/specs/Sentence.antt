-- The first sentence, about datagrams (RFC 8489, section 9.2.4). Whatever was received before, a
-- request is accepted from a user with an algorithm if and only if it has a REALM, a nonce that is
-- current at its source, algorithms that agree, and the digest under the key of the user whom it
-- names. Datagrams from other sources do not affect this.
use Rattle.std.specs.Prelude.{◌≡◌, ◌↔◌, ℕ, List, ◌++◌, ◌∷◌, take, length, slice_get}
use Rattle.std.specs.Prelude.{Bool, true, not, ◌&&◌, Option, Some, Ok}
use Rattle.std.specs.Global.{Vec}
use Rattle.std.specs.declared.net.socket_addr.SocketAddr.{SocketAddr}
use Rattle.stun_judging.specs.Reading.{reading_of}
use Rattle.stun_judging.specs.Verdict.{ClientSeen}
use Rattle.stun_extra.specs.Unknown.{unknown_types}
use Rattle.stun_endpoint.specs.Judged.{IsAcceptedAt}
use Rattle.stun_endpoint.specs.Received.{AcceptedRequest, Outcome, requested}
use Rattle.stun_endpoint.specs.Responding.{is_binding, is_empty, is_undropped_request}
use Rattle.stun_endpoint.specs.Settings.{Settings}
use Rattle.stun_datagrams.specs.Events.{ServerEvent, Arrived, UserSecrets, RequestVerdict}
use Rattle.stun_datagrams.specs.Events.{outcomes, own_events, own_outcomes, realm_with, users_after}

-- ---- what is accepted

-- a datagram is a request that is not dropped, and is accepted from a client: under the nonce of
-- the epoch or of the epoch before, under the secret or the previous secret (`IsAcceptedAt`)
abbrev pub IsAcceptedFrom : Settings → UserSecrets → SocketAddr → ℕ → List ℕ → ClientSeen → Type 0
IsAcceptedFrom s users from now bytes client =
    (is_undropped_request s.requires_fingerprint bytes ≡ true)
    × IsAcceptedAt s (realm_with s users) from now (reading_of bytes) client

-- whether the server leaves the response to an accepted request to its caller: its attributes are
-- understood, and it is not a Binding request that the server answers
abbrev pub is_for_caller : Settings → List ℕ → Bool
is_for_caller s bytes =
    is_empty (unknown_types s.known bytes) && not (s.answers_binding && is_binding bytes)

-- an outcome is an accepted request of a client
abbrev pub IsHandedOut : Option (Option Outcome) → ClientSeen → Type 0
IsHandedOut given client =
    (request : AcceptedRequest) × (given ≡ Some (Some (requested request)))
    × (request.client ≡ client)

-- At each index of a list of events: a datagram is returned as an accepted request of a client if
-- and only if it is accepted from that client, with the users at that time, and the response is up
-- to the caller
abbrev pub HandsOutAccepted : Settings → UserSecrets → List ServerEvent → List (Option Outcome)
    → Type 0
HandsOutAccepted s start events given =
    (i : ℕ) (from : SocketAddr) (now : ℕ) (message : Vec ℕ) (client : ClientSeen)
    → slice_get events i ≡ Some (Arrived from now message)
    → IsHandedOut (slice_get given i) client
    ↔ ((is_for_caller s message.items ≡ true)
    × IsAcceptedFrom s (users_after start (take i events)) from now message.items client)

-- at each index, the verdict accepts a client if and only if the datagram is accepted from that
-- client, with the users at that time
abbrev pub AcceptsFromClients : Settings → UserSecrets → List ServerEvent
    → List (Option RequestVerdict)
    → Type 0
AcceptsFromClients s start events given =
    (i : ℕ) (from : SocketAddr) (now : ℕ) (message : Vec ℕ) (client : ClientSeen)
    → slice_get events i ≡ Some (Arrived from now message)
    → (slice_get given i ≡ Some (Some (Ok client)))
    ↔ IsAcceptedFrom s (users_after start (take i events)) from now message.items client

-- whatever other sources send, the datagrams of a source have the outcomes that they have without
-- the datagrams of other sources, with the same changes of the users
abbrev pub AreIsolated : Settings → UserSecrets → List ServerEvent → List (Option Outcome) → Type 0
AreIsolated s start events given =
    (from : SocketAddr) → own_outcomes from events given ≡ outcomes s start (own_events from events)

-- whatever came before, an event has the same outcome with the same users
abbrev pub AreJudgedAlone : Settings → Type 0
AreJudgedAlone s =
    (start other : UserSecrets) (before instead after then : List ServerEvent) (e : ServerEvent)
    → users_after start before ≡ users_after other instead
    → slice_get (outcomes s start (before ++ e ∷ after)) (length before)
    ≡ slice_get (outcomes s other (instead ++ e ∷ then)) (length instead)
