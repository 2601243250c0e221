-- How many datagrams a request costs if its password is wrong (RFC 8489, section 9.2.5).
use Rattle.std.specs.Prelude.{◌≡◌, ◌≤◌, ◌+◌, ℕ, Bool, true, false, List, Option, Some, None}
use Rattle.std.specs.Option.{IsSome}
use Rattle.std.specs.declared.net.socket_addr.SocketAddr.{SocketAddr}
use Rattle.stun_base.specs.Moments.{last_moment}
use Rattle.stun_client.specs.Challenges.{Answered}
use Rattle.stun_client.specs.Judging.{anew, refused}
use Rattle.stun_client_endpoint.specs.Bodies.{Body}
use Rattle.stun_client_endpoint.specs.declared.told.Received.TheVariants.{Consumed}
use Rattle.stun_client_requests.specs.Requests.{datum_of}
use Rattle.stun_client_calls.specs.Clients.{Client, refusal_to_start, started, told, transmit}
use Rattle.stun_client_calls.specs.Messages.{AskedSeen}
use Rattle.stun_client_calls.specs.OptionLaws.{is_unsigned}
use Rattle.stun_client_calls.specs.Options.{Options}
use Rattle.stun_client_calls.specs.Receiving.{Memory, Met, received}
use Rattle.stun_client_calls.specs.Runs.{Calls, Event, next_number}
use Rattle.stun_client_runs.specs.Kept.{IsClient}
use Rattle.stun_client_strength.specs.Hearing.{message_answered, response_verdict}
use Rattle.stun_client_strength.specs.Refusing.{is_sent_in}

-- what is stored of a request before, if it is still outstanding: its current message is signed for
-- the same challenge as after, and the same refusals count
pub record IsUntouched (number : ℕ) (c : Client) (b : AskedSeen) : Type 0 where
  pub before : AskedSeen
  pub there : datum_of number c.requests ≡ Some before
  pub signed_for : before.signed_for ≡ b.signed_for
  pub refusals : before.refusals ≡ b.refusals

-- a client and a server that refuses each signed message of one request: whether the bytes of the
-- request were returned and not answered since, and how often they are returned from one client to
-- another. They are returned only once what was sent before is answered
pub data IsRefusedRun (number : ℕ) : Bool → Client → ℕ → Client → Type 0 where
  over : (is_waiting : Bool) (c : Client) → IsRefusedRun number is_waiting c 0 c
  -- `poll` says to send them
  sent : (c next after : Client) (now count : ℕ) → told now c ≡ (transmit number, next)
      → IsRefusedRun number true next count after → IsRefusedRun number false c (count + 1) after
  -- a message that is not signed is answered with a challenge, which the client answers
  challenged : (is_waiting : Bool) (c next after : Client) (memory : Memory) (from : SocketAddr)
      (bytes : List ℕ) (now count : ℕ) (m : Met) (x : Answered) → now ≤ last_moment
      → message_answered c from bytes ≡ Some m → m.number ≡ number → m.asked.signed_for ≡ None
      → response_verdict c bytes m ≡ anew x → received memory from bytes now c ≡ (Consumed, next)
      → IsRefusedRun number false next count after → IsRefusedRun number is_waiting c count after
  -- a signed message is answered with the challenge that it is signed for
  refused_by : (is_waiting : Bool) (c next after : Client) (memory : Memory) (from : SocketAddr)
      (bytes : List ℕ) (now count : ℕ) (m : Met) → now ≤ last_moment
      → message_answered c from bytes ≡ Some m → m.number ≡ number → IsSome m.asked.signed_for
      → response_verdict c bytes m ≡ refused None → (received memory from bytes now c).1 ≡ next
      → IsRefusedRun number false next count after → IsRefusedRun number is_waiting c count after
  -- calls between, which do not change the request
  between : (is_waiting : Bool) (c next after : Client) (events : List Event) (count : ℕ)
      → Calls c events next → is_sent_in number events ≡ false
      → ((b : AskedSeen) → datum_of number next.requests ≡ Some b → IsUntouched number c b)
      → IsRefusedRun number is_waiting next count after
      → IsRefusedRun number is_waiting c count after

-- the number of datagrams that a request with these options costs: at most three, at most two if
-- there is a challenge to sign it for when it starts, and at most one if its options say that it is
-- not signed
pub record IsCheap (standing : Option Answered) (options : Option Options) (count : ℕ)
    : Type 0 where
  pub three : count ≤ 3
  pub two : IsSome standing → count ≤ 2
  pub one : is_unsigned options ≡ true → count ≤ 1

-- the bytes of a request with any options are returned no more often
abbrev pub CostsThreeDatagrams : Type 0
CostsThreeDatagrams =
    (c later : Client) (method : ℕ) (body : Body) (options : Option Options) (start count : ℕ)
    → IsClient c → start ≤ last_moment → refusal_to_start c method body options ≡ None
    → IsRefusedRun (next_number c) false (started method body options start c) count later
    → IsCheap c.standing.current options count
