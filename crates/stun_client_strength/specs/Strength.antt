-- What a client sends is not bid down, whatever it has received (RFC 8489, sections 9.2.5 and
-- 16.1.3).
use Rattle.std.specs.Prelude.{◌≡◌, ◌≤◌, ◌<◌, ◌&&◌, ℕ, true, false, List, Option, Some, None, ⊤}
use Rattle.std.specs.Prelude.{IsUtf8}
use Rattle.std.specs.Option.{IfSome}
use Rattle.std.specs.declared.net.socket_addr.SocketAddr.{SocketAddr}
use Rattle.stun_base.specs.Moments.{last_moment}
use Rattle.stun_base.specs.declared.keys.algorithm.IntegrityAlgorithm.{IntegrityAlgorithm}
use Rattle.stun_judging.specs.Reading.{reading_of}
use Rattle.stun_client.specs.Challenges.{Answered, is_weaker}
use Rattle.stun_client.specs.Downgrade.{IsNowhereBidDown}
use Rattle.stun_client.specs.Rule.{IsByRule}
use Rattle.stun_client.specs.Standing.{confirmed, is_standing, is_stronger_than}
use Rattle.stun_client_calls.specs.Receiving.{is_success_class}
use Rattle.stun_client_endpoint.specs.Bodies.{Body}
use Rattle.stun_client_endpoint.specs.declared.ended.RequestEnd.{RequestEnd}
use Rattle.stun_client_endpoint.specs.declared.ended.RequestEnd.TheVariants as how
use Rattle.stun_client_requests.specs.Numbers.{id_at}
use Rattle.stun_client_requests.specs.Requests.{bytes_at, datum_of}
use Rattle.stun_client_calls.specs.Clients.{Client, Told, ends, refusal_to_start, started, told}
use Rattle.stun_client_calls.specs.Clients.{transmit, waits}
use Rattle.stun_client_calls.specs.Deciding.{answered}
use Rattle.stun_client_calls.specs.Messages.{AskedSeen, SentSeen, challenge_for}
use Rattle.stun_client_calls.specs.NewClients.{NewClient, made_of}
use Rattle.stun_client_calls.specs.OptionLaws.{is_unsigned}
use Rattle.stun_client_calls.specs.Options.{Options}
use Rattle.stun_client_calls.specs.Receiving.{Memory, Met, decision_for, received}
use Rattle.stun_client_calls.specs.Runs.{Call, Calls, Event, call, changes_nothing, ends_one}
use Rattle.stun_client_calls.specs.Runs.{next_number, no_call, polls, receives, requests}
use Rattle.stun_client_runs.specs.Kept.{sent_at}
use Rattle.stun_client_strength.specs.Hearing.{message_answered}
use Rattle.stun_client_strength.specs.Unsigned.{IsNeverSigned}
use Rattle.stun_requests.specs.Fitting.{IsBuiltBody}
use Rattle.stun_requests.specs.ReadBack.{IsReadAsMade, added_to}
use Rattle.stun_base.specs.MessageType.{class_in}

-- ---- whatever is received

-- a message is signed for a challenge by the client's own rule, or it is not signed
abbrev pub IsByRuleFor : NewClient → Option Answered → Type 0
IsByRuleFor c signed_for = IfSome signed_for (λ x. IsByRule c.preferences c.who x.challenge)

-- the bytes that are sent for a request with these options and this method: they read as signed for
-- the challenge that is stored with its current message, which is by the client's own rule, or as
-- not signed at all. If the options say that the request is not signed, it has no other message,
-- and this one is not signed (`unsigned`). No server whose nonce and offer are up to date accepts
-- the bytes with a weaker algorithm than the strongest that both support. The challenges of its
-- earlier messages, which may become the current one again, are by the rule, too
pub record IsSentByRule (c : NewClient) (options : Option Options) (method number : ℕ)
    (last : Client) : Type 0 where
  pub asked : AskedSeen
  pub there : datum_of number last.requests ≡ Some asked
  pub options_are : asked.options ≡ options
  pub unsigned : is_unsigned options ≡ true → IsNeverSigned asked
  pub by_rule : IsByRuleFor c asked.signed_for
  pub earlier : (rank : ℕ) (s : SentSeen) → sent_at rank asked.earlier ≡ Some s
      → IsByRuleFor c s.signed_for
  pub bytes : List ℕ
  pub found : bytes_at number last.requests ≡ Some bytes
  pub reads : IsReadAsMade c.form method (added_to asked.signed_for) bytes
  pub not_bid_down : IsNowhereBidDown c.preferences (reading_of bytes)

-- after a sequence of calls of a new client, a request with any options is started, further calls
-- follow, and `poll` says to send it
abbrev pub NothingIsBidDown : Type 0
NothingIsBidDown =
    (c : NewClient) (e later last : Client) (before between : List Event) (method : ℕ) (body : Body)
    (options : Option Options) (start now : ℕ) → IsUtf8 c.who.username
    → Calls (made_of c) before e → method < 4096 → IsBuiltBody body → start ≤ last_moment
    → refusal_to_start e method body options ≡ None
    → Calls (started method body options start e) between later
    → told now later ≡ (transmit (next_number e), last)
    → IsSentByRule c options method (next_number e) last

-- ---- after a success

-- a datagram is a success that answers a message of a request, the current one or an earlier one,
-- which is signed for this challenge
pub record IsSuccess (c : Client) (from : SocketAddr) (bytes : List ℕ) (now : ℕ) (m : Met)
    (x : Answered) : Type 0 where
  pub heard_so : message_answered c from bytes ≡ Some m
  pub success : is_success_class (class_in bytes) ≡ true
  pub signed_by : Option IntegrityAlgorithm
  pub answers : decision_for c now bytes m ≡ answered signed_by
  pub signed_for : m.signed_for ≡ Some x

-- a challenge is confirmed once a datagram is received: the standing one if that is the challenge
-- of the message, or the challenge of the message if it is stronger than the one that was confirmed
-- last
pub record IsConfirmed (memory : Memory) (c : Client) (from : SocketAddr) (bytes : List ℕ) (now : ℕ)
    (x : Answered) : Type 0 where
  pub standing : is_standing c.standing (Some x) ≡ true
      → confirmed (received memory from bytes now c).1.standing ≡ c.standing.current
  pub stronger : is_standing c.standing (Some x) ≡ false
      → is_stronger_than x (confirmed c.standing) ≡ true
      → confirmed (received memory from bytes now c).1.standing ≡ Some x

-- each success confirms in this way
abbrev pub SuccessesConfirm : Type 0
SuccessesConfirm =
    (memory : Memory) (c : Client) (from : SocketAddr) (bytes : List ℕ) (now : ℕ) (m : Met)
    (x : Answered) → IsSuccess c from bytes now m x → IsConfirmed memory c from bytes now x

-- the request with this number has no message that is signed for the challenge which a success has
-- confirmed, neither its current one nor an earlier one
abbrev pub IsNotConfirmed : Client → ℕ → Type 0
IsNotConfirmed c number =
    (a : AskedSeen) → datum_of number c.requests ≡ Some a
    → (c.standing.is_validated && is_standing c.standing (challenge_for c.standing.current a))
    ≡ false

-- no request that has such a message times out, at the poll that returns this
abbrev pub IsNoTimeout : Client → ℕ → RequestEnd → Type 0
IsNoTimeout c number (how.Answered outcome signed_by) = ⊤
IsNoTimeout c number how.Unauthorized = ⊤
IsNoTimeout c number how.TooManyChallenges = ⊤
IsNoTimeout c number (how.TimedOut drops) = IsNotConfirmed c number
IsNoTimeout c number how.Cancelled = ⊤

abbrev pub SaysNoTimeout : Client → Told → Type 0
SaysNoTimeout c (transmit number) = ⊤
SaysNoTimeout c (ends number end) = IsNoTimeout c number end.end
SaysNoTimeout c (waits until) = ⊤

-- a fact about the client before each poll among calls, and about its result
abbrev pub OfCall : (Client → Told → Type 0) → (c : Client) (event : Event) (after : Client)
    → Call c event after
    → Type 0
OfCall fact c event after (requests _ _ method body options now low none so) = ⊤
OfCall fact c event after (receives _ _ from bytes now answer low made so) = ⊤
OfCall fact c event after (polls _ _ now says said) = fact c says
OfCall fact c event after (ends_one _ _ number a there so) = ⊤
OfCall fact c event after (changes_nothing _) = ⊤

abbrev pub OfEachPoll : (Client → Told → Type 0) → (c : Client) (events : List Event)
    (after : Client) → Calls c events after
    → Type 0
OfEachPoll fact c events after (no_call _) = ⊤
OfEachPoll fact c events after (call _ next _ event others made rest) =
    OfCall fact c event next made × OfEachPoll fact next others after rest

-- there is a challenge, which is not weaker than another one
pub record IsNoWeaker (than : Answered) (signed_for : Option Answered) : Type 0 where
  pub challenge : Answered
  pub is : signed_for ≡ Some challenge
  pub strong : is_weaker challenge.challenge than.challenge ≡ false

-- a request was outstanding at an earlier client already, under the same transaction ID, and signed
-- for the same challenge or for none
pub record IsSentAsBefore (e : Client) (number : ℕ) (last : Client) (a : AskedSeen) : Type 0 where
  pub before : AskedSeen
  pub there : datum_of number e.requests ≡ Some before
  pub id : id_at number last.requests.numbers ≡ id_at number e.requests.numbers
  pub signed_for : before.signed_for ≡ a.signed_for

-- the current message of a request is signed for a challenge that is not weaker than another one;
-- or it is not signed, because a response has thrown doubt on a message of the request; or it was
-- the current one at an earlier client already; or it is not signed, because the options of the
-- request say so
pub data IsStrongSince (e : Client) (strong : Answered) (number : ℕ) (last : Client) (a : AskedSeen)
    : Type 0 where
  signed : IsNoWeaker strong a.signed_for → IsStrongSince e strong number last a
  in_doubt : a.signed_for ≡ None → 1 ≤ a.doubts → IsStrongSince e strong number last a
  as_before : IsSentAsBefore e number last a → IsStrongSince e strong number last a
  unsigned : is_unsigned a.options ≡ true → IsNeverSigned a
      → IsStrongSince e strong number last a

-- this holds for each request that `poll` says to send
pub record IsSentStrongly (e : Client) (strong : Answered) (number : ℕ) (last : Client)
    : Type 0 where
  pub asked : AskedSeen
  pub there : datum_of number last.requests ≡ Some asked
  pub strength : IsStrongSince e strong number last asked

-- from a success that has confirmed a challenge on, until a request that has a message for the
-- confirmed challenge times out
abbrev pub NothingWeakerIsSent : Type 0
NothingWeakerIsSent =
    (c : NewClient) (e later last : Client) (before between : List Event) (strong : Answered)
    (now number : ℕ) → Calls (made_of c) before e → confirmed e.standing ≡ Some strong
    → (calls : Calls e between later) → OfEachPoll SaysNoTimeout e between later calls
    → told now later ≡ (transmit number, last) → IsSentStrongly e strong number last

-- and the challenge that new requests are signed for, unless their options say that they are not
-- signed, is not weaker
abbrev pub NewRequestsAreStrong : Type 0
NewRequestsAreStrong =
    (c : NewClient) (e later : Client) (before between : List Event) (strong : Answered)
    → Calls (made_of c) before e → confirmed e.standing ≡ Some strong
    → (calls : Calls e between later) → OfEachPoll SaysNoTimeout e between later calls
    → IsNoWeaker strong later.standing.current
