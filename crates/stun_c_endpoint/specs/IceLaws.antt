-- The statements of the laws over ICE agents.
use Rattle.std.specs.Prelude.{◌≡◌, ◌≤◌, ◌++◌, ℕ, List, true, length, Some, None, Bool}
use Rattle.std.specs.Str.{is_utf8}
use Rattle.stun_base.specs.Keys.{with_colon}
use Rattle.stun_ice.specs.Agent.{Agent, Peer, SentCheck, side_refusal}
use Rattle.stun_ice.specs.Received.{Given, checked, dropped, indicated, responded}
use Rattle.stun_ice.specs.Refusals.{code_of}
use Rattle.stun_ice.specs.declared.received.Failure.{Failure}
use Rattle.stun_ice.specs.declared.received.Failure.TheVariants.{Error as ErrorResponse}
use Rattle.stun_ice.specs.declared.received.Failure.TheVariants.{Malformed, NotUnderstood, OtherPath}
use Rattle.stun_ice.specs.declared.received.Judged.TheVariants.{Accepted, Refused}
use Rattle.stun_ice.specs.declared.received.Judged.TheVariants.{RoleConflict as PeerSwitches}
use Rattle.stun_ice.specs.declared.received.Outcome.TheVariants.{Failed, RoleConflict, Valid}
use Rattle.stun_c_endpoint.specs.Agents.{is_controlling}
use Rattle.stun_c_endpoint.specs.Checks.{check_told}
use Rattle.stun_c_endpoint.specs.Judged.{IsMapped, ice_drop_number}
use Rattle.stun_c_endpoint.specs.declared.ice.told.IceCheck.{IceCheck}
use Rattle.stun_c_endpoint.specs.declared.ice.told.IceReceived.{IceReceived}

-- ---- the agent of a handle

-- credentials that the library accepts
pub record IsSide (name password : List ℕ) : Type 0 where
  pub name_text : is_utf8 name ≡ true
  pub password_text : is_utf8 password ≡ true
  pub accepted : side_refusal name password ≡ None

-- an agent has these credentials, with which it verifies the checks that it receives, and this role
pub record HasOwn (a : Agent) (own secret : List ℕ) (tie : ℕ) (controls : Bool) : Type 0 where
  pub name_is : a.name ≡ own
  pub password_is : a.password ≡ secret
  pub tie_breaker_is : a.tie_breaker ≡ tie
  pub role_is : is_controlling a.role ≡ controls

-- an agent signs its checks with the password of this peer, and names the peer first in them
pub record Knows (a : Agent) (peer_name peer_password : List ℕ) : Type 0 where
  pub known : Peer
  pub is_known : a.peer ≡ Some known
  pub names : known.outgoing ≡ with_colon peer_name a.name
  pub signs : known.password ≡ peer_password

-- ---- checks

-- a check is at the front of a buffer, which has room for it and is as long as before, and the
-- caller's struct describes the check
pub record IsWritten (check : SentCheck) (n : ℕ) (out after : List ℕ) (told : IceCheck) : Type 0 where
  pub count : n ≡ length check.bytes
  pub room : n ≤ length out
  pub rest : List ℕ
  pub front : after ≡ check.bytes ++ rest
  pub size : length after ≡ length out
  pub described : told ≡ check_told check

-- ---- datagrams

-- an answer is at the front of a buffer, which has room for it and is as long as before
pub record IsAnswered (answer out after : List ℕ) (told : IceReceived) : Type 0 where
  pub count : told.length ≡ length answer
  pub room : length answer ≤ length out
  pub rest : List ℕ
  pub front : after ≡ answer ++ rest
  pub size : length after ≡ length out

-- the numbers of the reasons for which a check of the agent failed, as `include/stunp_endpoint.h`
-- has them, and what else is written for each
abbrev pub TellsFailure : Failure → IceReceived → Type 0
TellsFailure (ErrorResponse code) r = (r.outcome ≡ 6) × (r.code ≡ code)
TellsFailure OtherPath r = r.outcome ≡ 7
TellsFailure (NotUnderstood kind) r = (r.outcome ≡ 8) × (r.not_understood ≡ kind.0)
TellsFailure Malformed r = r.outcome ≡ 9

-- a caller reads what the library returns: the kind and the outcome have its number, the fields
-- that go with it have its values, and there are bytes to send only for a check
abbrev pub TellsGiven : Given → ℕ → List ℕ → List ℕ → IceReceived → Type 0
TellsGiven (checked bytes answer (Accepted priority nominated switched)) n out after r =
    (n ≡ 1) × IsAnswered answer out after r × (r.outcome ≡ 1) × (r.priority ≡ priority)
    × (r.nominated ≡ nominated) × (r.switched ≡ switched)
TellsGiven (checked bytes answer PeerSwitches) n out after r =
    (n ≡ 1) × IsAnswered answer out after r × (r.outcome ≡ 2) × (r.code ≡ 487)
TellsGiven (checked bytes answer (Refused why)) n out after r =
    (n ≡ 1) × IsAnswered answer out after r × (r.outcome ≡ 3) × (r.code ≡ code_of why)
TellsGiven (responded (Valid mapped)) n out after r =
    (n ≡ 4) × (after ≡ out) × (r.outcome ≡ 4) × IsMapped mapped r.mapped
TellsGiven (responded (RoleConflict switched)) n out after r =
    (n ≡ 4) × (after ≡ out) × (r.outcome ≡ 5) × (r.switched ≡ switched)
TellsGiven (responded (Failed failure)) n out after r =
    (n ≡ 4) × (after ≡ out) × TellsFailure failure r
TellsGiven (indicated bytes) n out after r = (n ≡ 3) × (after ≡ out)
TellsGiven (dropped why) n out after r =
    (n ≡ 0) × (after ≡ out) × (r.why ≡ ice_drop_number why)
