-- What follows from the decisions on responses, for a caller.
use Rattle.std.specs.Prelude.{◌≡◌, ◌<◌, ◌≤◌, ℕ, Bool, true, false, List, Option, ⊤}
use Rattle.stun_client.specs.Challenges.{Answered}
use Rattle.stun_client.specs.Judging.{Identity, judged}
use Rattle.stun_client.specs.Standing.{StandingSeen}
use Rattle.stun_client_endpoint.specs.Refusals.{OTHERS}
use Rattle.stun_client_calls.specs.Deciding.{DecisionSeen, answered, decided, drops, refuses, turns}
use Rattle.stun_client_calls.specs.Deciding.{challenged_out}
use Rattle.stun_client_calls.specs.Messages.{AskedSeen, DOUBTS, is_doubt, is_refusal}
use Rattle.stun_client_calls.specs.declared.deciding.Limits.{Limits}
use Rattle.stun_client_calls.specs.declared.turning.Why.{Why}

-- the parts of a client on which the judgement of a response depends: whether the client requires
-- FINGERPRINT, how it proves who it is, its limits, and the challenge that new requests are signed
-- for
pub record Judge : Type 0 where
  pub required : Bool
  pub identity : Identity
  pub limits : Limits
  pub standing : StandingSeen

-- the decision on a response to a message that is the current one or an earlier one, and is signed
-- for this challenge
abbrev pub decision_on : Judge → Bool → ℕ → AskedSeen → Option Answered → List ℕ → DecisionSeen
decision_on j is_current now a before bytes =
    decided j.limits j.standing now a
    (judged j.required is_current j.identity j.standing before bytes)

-- another message may become the current one: the first plan of the request is not over, and none
-- of the limits is reached, which hold for all such messages, for those because of doubts, and for
-- those because of refusals
pub record IsWithinLimits (limits : Limits) (now : ℕ) (a : AskedSeen) (why : Why) : Type 0 where
  pub in_time : now ≤ a.until
  pub in_limit : a.turns < limits.turns
  pub doubts : is_doubt why ≡ true → a.doubts < DOUBTS
  pub refusals : is_refusal why ≡ true → a.refusals.others < OTHERS

-- the request continues
abbrev pub IsNoEnd : DecisionSeen → Type 0
IsNoEnd (answered by) = ⊥
IsNoEnd challenged_out = ⊥
IsNoEnd (turns why place c) = ⊤
IsNoEnd refuses = ⊤
IsNoEnd (drops why) = ⊤

-- the request is answered, or the response is dropped
abbrev pub IsAnswerOrDrop : DecisionSeen → Type 0
IsAnswerOrDrop (answered by) = ⊤
IsAnswerOrDrop challenged_out = ⊥
IsAnswerOrDrop (turns why place c) = ⊥
IsAnswerOrDrop refuses = ⊥
IsAnswerOrDrop (drops why) = ⊤

-- a request over a transport that is not reliable was not refused before it was sent last, nor by
-- as many other challenges as the limit allows, and another message may become the current one
pub record IsUnspent (limits : Limits) (a : AskedSeen) : Type 0 where
  pub unreliable : limits.is_reliable ≡ false
  pub unrefused : a.refusals.is_earlier ≡ false
  pub refusals : a.refusals.others < OTHERS
  pub in_limit : a.turns < limits.turns
