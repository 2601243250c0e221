-- The ICE agent that a caller in C creates, and the results of simple calls on it (RFC 8445,
-- section 5.3).
use Rattle.std.specs.Prelude.{◌≡◌, ℕ, ℤ, pos, List, Bool, true, false, ◌&&◌, MatchOption}
use Rattle.std.specs.Prelude.{if◌then◌else◌, Option, Some, None, Result, Ok, Err}
use Rattle.std.specs.Option.{option_map}
use Rattle.std.specs.Str.{is_utf8}
use Rattle.stun_ice.specs.Agent.{Agent, build_refusal, remote_peer, side_refusal}
use Rattle.stun_ice.specs.declared.checker.BuildError.{BuildError}
use Rattle.stun_ice.specs.declared.checker.BuildError.TheVariants.{ColonInName, NameLength}
use Rattle.stun_ice.specs.declared.checker.BuildError.TheVariants.{PasswordLength}
use Rattle.stun_ice.specs.declared.checker.BuildError.TheVariants.{OutOfMemory as NoMemory}
use Rattle.stun_ice.specs.declared.role.Role.{Role}
use Rattle.stun_ice.specs.declared.role.Role.TheVariants.{Controlling, Controlled}
use Rattle.stun_handles.specs.Numbers.{OrOutOfMemory}
use Rattle.stun_numbers.specs.Refusals.{refusal_number}
use Rattle.stun_numbers.specs.declared.refusal.Refusal.{Refusal}
use Rattle.stun_numbers.specs.declared.refusal.Refusal.TheVariants.{BadArgument}
use Rattle.stun_numbers.specs.declared.refusal.Refusal.TheVariants.{NotText, OutOfMemory}
use Rattle.stun_c_endpoint.specs.declared.handle.endpoint.Kept.{Kept}
use Rattle.stun_c_endpoint.specs.declared.handle.endpoint.Kept.TheVariants.{Checker}

-- ---- the roles

-- the role of an agent that controls, or does not
abbrev pub role_if : Bool → Role
role_if true = Controlling
role_if false = Controlled

-- whether a role is that of the controlling agent
abbrev pub is_controlling : Role → Bool
is_controlling Controlling = true
is_controlling Controlled = false

-- ---- creating an agent

-- the arguments of a caller for one side: the username fragment and the password as bytes
pub record SideGiven : Type 0 where
  pub name : List ℕ
  pub password : List ℕ

-- the arguments of a caller: the username fragments and the passwords of both sides as bytes, the
-- tie-breaker, and whether the agent controls
pub record AgentGiven : Type 0 where
  pub name : List ℕ
  pub password : List ℕ
  pub peer_name : List ℕ
  pub peer_password : List ℕ
  pub tie_breaker : ℕ
  pub controls : Bool

-- the error for credentials of which no agent can be built
abbrev pub refusal_of_building : BuildError → Refusal
refusal_of_building NameLength = BadArgument
refusal_of_building ColonInName = BadArgument
refusal_of_building PasswordLength = BadArgument
refusal_of_building NoMemory = OutOfMemory

-- why no agent is created: the first reason that applies
unfoldable pub agent_refusal : AgentGiven → Option Refusal
agent_refusal g =
    if is_utf8 g.name && is_utf8 g.password && (is_utf8 g.peer_name && is_utf8 g.peer_password)
    then option_map refusal_of_building
    (build_refusal g.name g.peer_name g.password g.peer_password)
    else Some NotText

-- the agent that is created from these arguments
abbrev pub agent_given : AgentGiven → Agent
agent_given g = record {
  name = g.name;
  password = g.password;
  peer = Some (remote_peer g.name g.peer_name g.peer_password);
  tie_breaker = g.tie_breaker;
  role = role_if g.controls;
}

-- a call creates the agent from these arguments in an empty handle and returns 0, or returns the
-- first error; or an allocation failed
abbrev pub MakesAgent : AgentGiven → ℤ → Option Kept → Type 0
MakesAgent g result now =
    MatchOption (agent_refusal g)
    (OrOutOfMemory result None now (pos 0) (Some (Checker (agent_given g))))
    (λ refusal. (result ≡ refusal_number refusal) × (now ≡ None))

-- ---- an agent that does not know its peer yet

-- why the credentials of one side are not accepted, if they are not
unfoldable pub side_given_refusal : SideGiven → Option Refusal
side_given_refusal s =
    if is_utf8 s.name && is_utf8 s.password
    then option_map refusal_of_building (side_refusal s.name s.password)
    else Some NotText

-- the agent with its own credentials, a tie-breaker, and whether it controls
abbrev pub offering_agent : SideGiven → ℕ → Bool → Agent
offering_agent s tie controls = record {
  name = s.name;
  password = s.password;
  peer = None;
  tie_breaker = tie;
  role = role_if controls;
}

-- a call creates this agent in an empty handle and returns 0, or returns the first error; or an
-- allocation failed
abbrev pub MakesOffering : SideGiven → ℕ → Bool → ℤ → Option Kept → Type 0
MakesOffering s tie controls result now =
    MatchOption (side_given_refusal s)
    (OrOutOfMemory result None now (pos 0) (Some (Checker (offering_agent s tie controls))))
    (λ refusal. (result ≡ refusal_number refusal) × (now ≡ None))

-- the agent that knows this peer
abbrev pub knowing_agent : Agent → SideGiven → Agent
knowing_agent a s = record a { peer = Some (remote_peer a.name s.name s.password) }

-- a call sets the credentials of an agent's peer and returns 0, or returns the first error and
-- leaves the agent unchanged: there is none, or the credentials are not accepted; or an allocation
-- failed
abbrev pub SetsPeer : Result Agent Refusal → SideGiven → ℤ → Option Kept → Option Kept → Type 0
SetsPeer (Err refusal) s result before now = (result ≡ refusal_number refusal) × (now ≡ before)
SetsPeer (Ok a) s result before now =
    MatchOption (side_given_refusal s)
    (OrOutOfMemory result before now (pos 0) (Some (Checker (knowing_agent a s))))
    (λ refusal. (result ≡ refusal_number refusal) × (now ≡ before))

-- ---- simple calls

-- 1 for an agent that controls, and 0 for one that does not
abbrev pub controlling_answer : Result Agent Refusal → ℤ
controlling_answer (Err refusal) = refusal_number refusal
controlling_answer (Ok a) = if is_controlling a.role then pos 1 else pos 0

-- a call sets another tie-breaker of an agent and returns 0, or there is no agent
abbrev pub SetsTieBreaker : Result Agent Refusal → ℕ → ℤ → Option Kept → Option Kept → Type 0
SetsTieBreaker (Err refusal) tie result before now =
    (result ≡ refusal_number refusal) × (now ≡ before)
SetsTieBreaker (Ok a) tie result before now =
    (result ≡ pos 0) × (now ≡ Some (Checker (record a { tie_breaker = tie })))

-- a call sets the role of an agent to controlling, or to the other one, and returns 0, or there is
-- no agent
abbrev pub SetsRole : Result Agent Refusal → Bool → ℤ → Option Kept → Option Kept → Type 0
SetsRole (Err refusal) controls result before now =
    (result ≡ refusal_number refusal) × (now ≡ before)
SetsRole (Ok a) controls result before now =
    (result ≡ pos 0) × (now ≡ Some (Checker (record a { role = role_if controls })))
