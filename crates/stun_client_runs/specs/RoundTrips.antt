-- The round trip of a response: it is that of a message which exactly one poll has returned (RFC
-- 8489, section 6.2.1, and RFC 6298, section 3).
use Rattle.std.specs.Prelude.{◌≡◌, ◌<◌, ◌-◌, ◌==◌, ℕ, Bool, false, List, [], ◌∷◌, ◌++◌, Option}
use Rattle.std.specs.Prelude.{None, Some, if◌then◌else◌}
use Rattle.std.specs.declared.net.socket_addr.SocketAddr.{SocketAddr}
use Rattle.stun_base.specs.Header.{transaction_id_field}
use Rattle.stun_base.specs.declared.wire.attribute_type.AttributeType.{AttributeType}
use Rattle.stun_base.specs.declared.wire.transport.TransportType.{TransportType}
use Rattle.stun_agent.specs.Timing.{Settings}
use Rattle.stun_client.specs.Ids.{id_of}
use Rattle.stun_client.specs.Judging.{Identity}
use Rattle.stun_client_endpoint.specs.Written.{Form}
use Rattle.stun_client_requests.specs.Numbers.{id_at}
use Rattle.stun_client_calls.specs.Clients.{Client, Told, ends, new_client, transmit, waits}
use Rattle.stun_client_calls.specs.Receiving.{Met, heard_in, round_trip_of}
use Rattle.stun_client_calls.specs.Runs.{Call, Calls, Event, call, changes_nothing, ends_one}
use Rattle.stun_client_calls.specs.Runs.{no_call, polls, receives, requests}

-- ---- when a message is returned

abbrev pub is_id : ℕ → Option ℕ → Bool
is_id id None = false
is_id id (Some other) = other == id

-- when a poll at this time returns the message with a transaction ID: then, or never. `after` is
-- the client after the poll, in which it is the current message of the request that the poll names
abbrev pub times_of_poll : ℕ → ℕ → Told → Client → List ℕ
times_of_poll id now (transmit number) after =
    if is_id id (id_at number after.requests.numbers) then now ∷ [] else []
times_of_poll id now (ends number end) after = []
times_of_poll id now (waits until) after = []

abbrev pub times_of_call : ℕ → (c : Client) (event : Event) (after : Client) → Call c event after
    → List ℕ
times_of_call id c event after (requests _ _ method body options now low none so) = []
times_of_call id c event after (receives _ _ from bytes now answer low heard so) = []
times_of_call id c event after (polls _ _ now says said) = times_of_poll id now says after
times_of_call id c event after (ends_one _ _ number a there so) = []
times_of_call id c event after (changes_nothing _) = []

-- when the polls among calls return it, in the order of the calls
abbrev pub times_of_calls : ℕ → (c : Client) (events : List Event) (after : Client)
    → Calls c events after
    → List ℕ
times_of_calls id c events after (no_call _) = []
times_of_calls id c events after (call _ next _ event others made rest) =
    times_of_call id c event next made ++ times_of_calls id next others after rest

-- ---- round trips

-- no two of the first transaction IDs of a seed, of which there are this many, are the same
abbrev pub AreApart : ℕ → List ℕ → Type 0
AreApart many seed =
    (m n : ℕ) → m < many → n < many → id_of seed m ≡ id_of seed n → m ≡ n

-- exactly one poll has returned a message, and a round trip is the time since then
pub record IsOfOnePoll (times : List ℕ) (now trip : ℕ) : Type 0 where
  pub sent : ℕ
  pub once : times ≡ sent ∷ []
  pub since : trip ≡ now - sent

-- a sequence of calls of a new client, and then a datagram that answers a message of a request. If
-- a round trip is stored with it, exactly one of the calls is a poll that has returned this
-- message, and the round trip is the time since that poll. No two of the transaction IDs that the
-- client has used are the same
abbrev pub RoundTripsAreOfOnePoll : Type 0
RoundTripsAreOfOnePoll = (transport : TransportType) (server : SocketAddr)
    (counts requires_fingerprint : Bool) (identity : Identity) (form : Form)
    (understood : List AttributeType) (turns : ℕ) (plan : Settings) (seed : List ℕ) (c : Client)
    (events : List Event) (from : SocketAddr) (bytes : List ℕ) (now trip : ℕ) (m : Met)
    → (calls : Calls (new_client transport server counts requires_fingerprint identity form
    understood turns plan seed) events c)
    → AreApart c.next_id seed → heard_in from bytes c ≡ Some m
    → round_trip_of now m ≡ Some trip
    → IsOfOnePoll
    (times_of_calls (transaction_id_field bytes) (new_client transport server counts
    requires_fingerprint identity form understood turns plan seed) events c calls) now trip
