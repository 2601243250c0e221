-- The outcomes of the datagrams of a batch: the outcome of each alone, in their order.
use Rattle.std.specs.Prelude.{◌≡◌, ◌≤◌, ℕ, List, [], ◌∷◌, length, map, slice_get, slice_range}
use Rattle.std.specs.Prelude.{Option, Some, None}
use Rattle.std.specs.declared.net.socket_addr.SocketAddr.{SocketAddr}
use Rattle.stun_endpoint.specs.Buffered.{outcome_in}
use Rattle.stun_judging.specs.Registered.{Registered}
use Rattle.stun_endpoint.specs.Received.{Outcome, received_for}
use Rattle.stun_endpoint.specs.Settings.{Settings}
use Rattle.stun_endpoint.specs.declared.batch.ReceivedAt.{ReceivedAt}
use Rattle.stun_endpoint.specs.declared.buffered.ReceivedInto.{ReceivedInto}
use Rattle.stun_endpoint.specs.declared.buffered.ReceivedInto.TheVariants as code

-- a datagram of a batch
pub record Datagram : Type 0 where
  pub bytes : List ℕ
  pub from : SocketAddr

-- the outcome of a datagram at a time
abbrev pub received_one : Settings → Option Registered → ℕ → Datagram → Outcome
received_one s users now d = received_for s users d.from now d.bytes

-- the outcomes of the datagrams of a batch
abbrev pub received_all : Settings → Option Registered → ℕ → List Datagram → List Outcome
received_all s users now datagrams = map (received_one s users now) datagrams

-- ---- results, whose responses are parts of one buffer

-- the outcome that a result describes, with its response in the buffer
abbrev pub outcome_at : {A : Type 0} → List ℕ → ReceivedAt A → Outcome
outcome_at answers result =
    outcome_in result.received (slice_range answers result.start result.end)

abbrev pub outcomes_at : {A : Type 0} → List ℕ → List (ReceivedAt A) → List Outcome
outcomes_at answers results = map (outcome_at answers) results

-- an outcome that is not a response takes no room in the buffer
abbrev pub TakesRoom : {R I : Type 0} → ReceivedInto R I → ℕ → ℕ → Type 0
TakesRoom (code.Answer answer) start end = start ≤ end
TakesRoom (code.Request request) start end = start ≡ end
TakesRoom (code.Indication message) start end = start ≡ end
TakesRoom (code.Response message) start end = start ≡ end
TakesRoom (code.Dropped reason) start end = start ≡ end

-- the responses follow one another in the order of the results, from one offset to another, with
-- nothing between them
abbrev pub FollowOneAnother : {A : Type 0} → ℕ → List (ReceivedAt A) → ℕ → Type 0
FollowOneAnother from [] to = from ≡ to
FollowOneAnother from (result ∷ later) to =
    (result.start ≡ from) × TakesRoom result.received result.start result.end
    × FollowOneAnother result.end later to

-- ---- another order

-- the elements at some indices, in that order. Indices that the list does not have are skipped
abbrev pub and_found : {X : Type 0} → Option X → List X → List X
and_found None later = later
and_found (Some x) later = x ∷ later

abbrev pub picked : {X : Type 0} → List ℕ → List X → List X
picked [] xs = []
picked (place ∷ places) xs = and_found (slice_get xs place) (picked places xs)
