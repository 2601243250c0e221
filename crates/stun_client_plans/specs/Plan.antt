-- When the bytes of a request that gets no answer are returned, and when its end is (RFC 8489,
-- sections 6.2.1 and 6.2.2), at whatever times its client is called.
use Rattle.std.specs.Prelude.{◌≡◌, ◌≤◌, ◌<◌, ◌+◌, ◌*◌, [], ◌∷◌, if◌then◌else◌, ℕ, suc, Bool, true}
use Rattle.std.specs.Prelude.{false, List, None, Option, Some, filter, nat_lt}
use Rattle.stun_base.specs.Moments.{last_moment, moment_after}
use Rattle.stun_agent.specs.Timing.{Settings, final_wait, planned_end, slots, sum_of_timeouts}
use Rattle.stun_agent.specs.Timing.{timeout}
use Rattle.stun_client_endpoint.specs.Bodies.{Body}
use Rattle.stun_client_endpoint.specs.declared.ended.Drops.{Drops}
use Rattle.stun_client_endpoint.specs.declared.ended.RequestEnd.TheVariants.{TimedOut}
use Rattle.stun_client_requests.specs.Numbers.{id_at}
use Rattle.stun_client_calls.specs.Clients.{Client, Told, ends, refusal_to_start, started, told}
use Rattle.stun_client_calls.specs.Clients.{transmit, waits}
use Rattle.stun_client_calls.specs.Endpoints.{EndSeen, bare_end}
use Rattle.stun_client_calls.specs.Options.{Options, plan_by}
use Rattle.stun_client_calls.specs.Runs.{Call, Event, cancels, is_told_of, next_number, polled}
use Rattle.stun_client_calls.specs.Runs.{silent, starts}
use Rattle.stun_client_runs.specs.Kept.{IsClient}

-- ---- calls

-- when a client must be polled next, if it had to be polled at `due` and has returned this since:
-- at the end of its wait, if that is later than the poll, and otherwise at once, as before
abbrev pub due_after : ℕ → ℕ → Told → ℕ
due_after due now (transmit number) = due
due_after due now (ends number end) = due
due_after due now (waits None) = due
due_after due now (waits (Some until)) = if nat_lt now until then until else due

-- the result of `transaction_id` for a request: the ID of its current message, while it is
-- outstanding
abbrev pub id_of_request : ℕ → Client → Option ℕ
id_of_request number c = id_at number c.requests.numbers

abbrev pub is_poll : Event → Bool
is_poll (starts number) = false
is_poll (cancels number) = false
is_poll (polled says) = true
is_poll silent = false

-- Calls of a client in any order, what its polls have returned, and when. It must be polled at one
-- time before, and at another after. None of the polls is before `start`, and each is at most
-- `late` late. The other calls, whose times may be any, do not change the transaction ID of the
-- request with this number: they do not end it, and do not send it by another message
pub data CallsInTime (late start number : ℕ) :
    ℕ → Client → List (ℕ × Told) → ℕ → Client → Type 0 where
  no_more : (due : ℕ) (c : Client) → CallsInTime late start number due c [] due c
  poll : (due now next : ℕ) (c mid after : Client) (says : Told) (said : List (ℕ × Told))
      → start ≤ now → now ≤ due + late → told now c ≡ (says, mid)
      → CallsInTime late start number (due_after due now says) mid said next after
      → CallsInTime late start number due c ((now, says) ∷ said) next after
  other : (due next : ℕ) (c mid after : Client) (event : Event) (said : List (ℕ × Told))
      → is_poll event ≡ false → Call c event mid
      → id_of_request number mid ≡ id_of_request number c
      → CallsInTime late start number due mid said next after
      → CallsInTime late start number due c said next after

-- what was returned for one request
abbrev pub said_of : ℕ → List (ℕ × Told) → List (ℕ × Told)
said_of number said = filter (λ t. is_told_of number t.1) said

-- ---- the plan of a request

-- the end of a request that got no response which counts, with what was dropped for it
abbrev pub unanswered_end : Drops → EndSeen
unanswered_end drops = bare_end (TimedOut drops)

-- how many timeouts a plan has over the transport of a client, each with a transmission at its end
abbrev pub timeouts_of : Client → Settings → ℕ
timeouts_of c plan = slots c.requests.table.transport plan

-- when transmission k of a request is planned, from 0 on, and when its end is
abbrev pub planned_at : Settings → ℕ → ℕ → ℕ
planned_at plan start k = moment_after start (sum_of_timeouts plan k)

abbrev pub plan_ends : Client → Settings → ℕ → ℕ
plan_ends c plan start = planned_end c.requests.table.transport plan start

-- when a request is due after k timeouts, the last of which passed at `last`: for a retransmission,
-- or to end
abbrev pub request_due : Client → Settings → ℕ → ℕ → ℕ
request_due c plan k last =
    moment_after last
    (if nat_lt k (timeouts_of c plan) then timeout plan k
    else final_wait c.requests.table.transport plan)

-- a time that is not before another one, and at most `late` after it
pub record ComesWithin (late due now : ℕ) : Type 0 where
  pub no_earlier : due ≤ now
  pub no_later : now ≤ due + late

-- transmission k would come after the end of the plan. Then the polls are so late that k of them
-- together are later than the wait for the end is long, or the plan continues up to the last time
pub record IsTooLate (late : ℕ) (c : Client) (plan : Settings) (start k now : ℕ) : Type 0 where
  pub is_over : plan_ends c plan start < now
  pub are_late : plan_ends c plan start < last_moment
      → final_wait c.requests.table.transport plan < k * late

-- What is returned for a request with this plan after k timeouts, the last of which passed at
-- `last`, up to its end. Each is returned once the request is due, and at most `late` after that.
-- In the plan of the request, transmission k, from 1 on, is at most k times as late, and the end at
-- most once more than the last one. A transmission that would come after the end of the plan is the
-- end of the request instead. Nothing that is due before `next` is missing
pub data GoesOnByPlan (late : ℕ) (c : Client) (plan : Settings) (start number next : ℕ) :
    ℕ → ℕ → List (ℕ × Told) → Type 0 where
  awaits : (k last : ℕ) → next ≤ request_due c plan k last
      → GoesOnByPlan late c plan start number next k last []
  sends : (k last now : ℕ) (said : List (ℕ × Told)) → k < timeouts_of c plan
      → ComesWithin late (request_due c plan k last) now
      → ComesWithin (suc k * late) (planned_at plan start (suc k)) now
      → now ≤ plan_ends c plan start
      → GoesOnByPlan late c plan start number next (suc k) now said
      → GoesOnByPlan late c plan start number next k last ((now, transmit number) ∷ said)
  is_given_up : (k last now : ℕ) (drops : Drops) → k < timeouts_of c plan
      → ComesWithin late (request_due c plan k last) now
      → ComesWithin (suc k * late) (planned_at plan start (suc k)) now
      → IsTooLate late c plan start (suc k) now
      → GoesOnByPlan late c plan start number next k last
      ((now, ends number (unanswered_end drops)) ∷ [])
  times_out : (k last now : ℕ) (drops : Drops) → k ≡ timeouts_of c plan
      → ComesWithin late (request_due c plan k last) now
      → ComesWithin (suc k * late) (plan_ends c plan start) now
      → GoesOnByPlan late c plan start number next k last
      ((now, ends number (unanswered_end drops)) ∷ [])

-- what is returned for a request with this plan from its start on: it is sent, and then continues.
-- If the client is not polled in its plan, it is not sent at all
pub data IsSentByPlan (late : ℕ) (c : Client) (plan : Settings) (start number next : ℕ) :
    List (ℕ × Told) → Type 0 where
  is_unsent : next ≤ start → IsSentByPlan late c plan start number next []
  begins : (now : ℕ) (said : List (ℕ × Told)) → ComesWithin late start now
      → now ≤ plan_ends c plan start → GoesOnByPlan late c plan start number next 0 start said
      → IsSentByPlan late c plan start number next ((now, transmit number) ∷ said)
  is_never_sent : (now : ℕ) (drops : Drops) → ComesWithin late start now
      → plan_ends c plan start < now
      → IsSentByPlan late c plan start number next ((now, ends number (unanswered_end drops)) ∷ [])

-- ---- the law

-- a request that is started with any options, and gets no answer, is sent and ends by its own plan,
-- whatever calls follow
abbrev pub RequestsAreSentByPlan : Type 0
RequestsAreSentByPlan =
    (late : ℕ) (c after : Client) (method : ℕ) (body : Body) (options : Option Options)
    (start next : ℕ) (said : List (ℕ × Told)) → IsClient c → start ≤ last_moment
    → refusal_to_start c method body options ≡ None
    → CallsInTime late start (next_number c) start (started method body options start c) said next
    after
    → IsSentByPlan late c (plan_by options c.plan) start (next_number c) next
    (said_of (next_number c) said)
