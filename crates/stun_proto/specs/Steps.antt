-- The steps of a driven agent, as its user sees them: times, IDs and bytes.
use Rattle.std.specs.Prelude.{ℕ, Bool, true, false, ◌==◌, List, [], ◌∷◌, map, if◌then◌else◌}
use Rattle.std.specs.declared.net.socket_addr.SocketAddr.{SocketAddr}
use Rattle.stun_agent.specs.declared.error.StunError.{StunError}
use Rattle.stun_proto.specs.declared.replay.event.AgentStep.{AgentStep}
use Rattle.stun_proto.specs.declared.replay.event.AgentStep.TheVariants as code

-- what an agent does: a request is sent, for the first time or again; another message is sent; a
-- message was received, and accepted or not; a call was refused; a request has ended, because its
-- time ran out or its user canceled it
pub data Step : Type 0 where
  Transmitted : (moment id : ℕ) (to : SocketAddr) (bytes : List ℕ) → Step
  Sent : (moment : ℕ) (to : SocketAddr) (bytes : List ℕ) → Step
  Received : (moment : ℕ) (accepted : Bool) → Step
  Refused : (moment : ℕ) (error : StunError) → Step
  TimedOut : (moment id : ℕ) → Step
  Cancelled : (moment id : ℕ) → Step

-- a step that the code returns
abbrev pub step_of : {A : Type 0} → AgentStep A → Step
step_of (code.Transmitted moment id to bytes) = Transmitted moment id to bytes.items
step_of (code.Sent moment to bytes) = Sent moment to bytes.items
step_of (code.Received moment accepted) = Received moment accepted
step_of (code.Refused moment error) = Refused moment error
step_of (code.TimedOut moment id) = TimedOut moment id
step_of (code.Cancelled moment id) = Cancelled moment id

abbrev pub steps_of : {A : Type 0} → List (AgentStep A) → List Step
steps_of steps = map step_of steps

abbrev pub moment_of : Step → ℕ
moment_of (Transmitted moment id to bytes) = moment
moment_of (Sent moment to bytes) = moment
moment_of (Received moment accepted) = moment
moment_of (Refused moment error) = moment
moment_of (TimedOut moment id) = moment
moment_of (Cancelled moment id) = moment

-- a step of the transaction of this ID
abbrev pub is_of : ℕ → Step → Bool
is_of id (Transmitted moment other to bytes) = id == other
is_of id (Sent moment to bytes) = false
is_of id (Received moment accepted) = false
is_of id (Refused moment error) = false
is_of id (TimedOut moment other) = id == other
is_of id (Cancelled moment other) = id == other

-- the end of a transaction
abbrev pub is_end : Step → Bool
is_end (Transmitted moment id to bytes) = false
is_end (Sent moment to bytes) = false
is_end (Received moment accepted) = false
is_end (Refused moment error) = false
is_end (TimedOut moment id) = true
is_end (Cancelled moment id) = true

-- the steps of the transaction of an ID, up to its end
unfoldable pub steps_to_end : ℕ → List Step → List Step
steps_to_end id [] = []
steps_to_end id (s ∷ ss) =
    if is_of id s then (if is_end s then s ∷ [] else s ∷ steps_to_end id ss) else steps_to_end id ss
