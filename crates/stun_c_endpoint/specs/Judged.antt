-- The outcome of a datagram at an ICE agent, as a caller in C receives it.
use Rattle.std.specs.Prelude.{◌≡◌, ◌⊎◌, ℕ, ℤ, pos, ◌++◌, List, Bool, false, ◌==◌, length}
use Rattle.std.specs.Prelude.{drop, nat_lt, if◌then◌else◌, Option, Some, None, Result, Ok, Err}
use Rattle.std.specs.Net.Socket.{IsPlainSocket, socket_ip}
use Rattle.std.specs.declared.net.socket_addr.SocketAddr.{SocketAddr}
use Rattle.stun_types.specs.XorMappedAddress.{IsHidden, xor_port}
use Rattle.stun_ice.specs.Agent.{Agent, SentCheck}
use Rattle.stun_ice.specs.Received.{Given, checked, dropped, given, indicated, judgement_of}
use Rattle.stun_ice.specs.Received.{responded, role_left}
use Rattle.stun_ice.specs.Refusals.{code_of}
use Rattle.stun_ice.specs.declared.received.DropReason.{DropReason}
use Rattle.stun_ice.specs.declared.received.DropReason.TheVariants.{NotStun, Malformed, NotAsked}
use Rattle.stun_ice.specs.declared.received.DropReason.TheVariants.{WrongFingerprint, OtherMethod}
use Rattle.stun_ice.specs.declared.received.DropReason.TheVariants.{UnknownAttribute}
use Rattle.stun_ice.specs.declared.received.DropReason.TheVariants.{WrongSignature}
use Rattle.stun_ice.specs.declared.received.Failure.{Failure}
use Rattle.stun_ice.specs.declared.received.Failure.TheVariants.{Error as ErrorResponse}
use Rattle.stun_ice.specs.declared.received.Failure.TheVariants.{Malformed as MalformedResponse}
use Rattle.stun_ice.specs.declared.received.Failure.TheVariants.{NotUnderstood, OtherPath}
use Rattle.stun_ice.specs.declared.received.Judged.{Judged}
use Rattle.stun_ice.specs.declared.received.Judged.TheVariants.{Accepted, Refused}
use Rattle.stun_ice.specs.declared.received.Judged.TheVariants.{RoleConflict as PeerSwitches}
use Rattle.stun_ice.specs.declared.received.Mapped.{Mapped}
use Rattle.stun_ice.specs.declared.received.Outcome.{Outcome}
use Rattle.stun_ice.specs.declared.received.Outcome.TheVariants.{Failed, RoleConflict, Valid}
use Rattle.stun_handles.specs.Addresses.{caller_address, socket_address, start_for}
use Rattle.stun_handles.specs.Answers.{at_address}
use Rattle.stun_handles.specs.declared.address.Address.{Address}
use Rattle.stun_numbers.specs.Refusals.{refusal_number}
use Rattle.stun_numbers.specs.declared.refusal.Refusal.{Refusal}
use Rattle.stun_numbers.specs.declared.refusal.Refusal.TheVariants.{BadArgument, BufferTooSmall}
use Rattle.stun_numbers.specs.declared.refusal.Refusal.TheVariants.{OutOfMemory}
use Rattle.stun_c_endpoint.specs.Checks.{check_given}
use Rattle.stun_c_endpoint.specs.Told.{FAILED}
use Rattle.stun_c_endpoint.specs.declared.handle.endpoint.Kept.{Kept}
use Rattle.stun_c_endpoint.specs.declared.handle.endpoint.Kept.TheVariants.{Checker}
use Rattle.stun_c_endpoint.specs.declared.ice.told.IceCheck.{IceCheck}
use Rattle.stun_c_endpoint.specs.declared.ice.told.IceReceived.{IceReceived}

-- ---- why a datagram is not judged, and the outcome of one that is

-- the number of bytes of the result of a caller, with which it begins
abbrev pub ICE_RECEIVED_SIZE : ℕ
ICE_RECEIVED_SIZE = 72

-- the outcome of a datagram: the agent after it, and what is returned to the caller
pub record Seen : Type 0 where
  pub agent : Agent
  pub given : Given

abbrev pub seen_by : Agent → Option SentCheck → SocketAddr → List ℕ → Seen
seen_by a check from bytes = record {
  agent = record a { role = role_left a.role (judgement_of a check from bytes) };
  given = given a from (judgement_of a check from bytes);
}

-- the outcome with the check that a caller passes, unless the address in it is not one
abbrev pub at_check : Option (Option SentCheck) → (Option SentCheck → Seen) → Result Seen Refusal
at_check None seen = Err BadArgument
at_check (Some check) seen = Ok (seen check)

-- what is judged. The errors come in this order: an empty handle, or one of another kind, a result
-- of another size, and an address that is not one
abbrev pub seen_at : Result Agent Refusal → Bool → IceCheck → Address → List ℕ → IceReceived
    → Result Seen Refusal
seen_at (Err refusal) has k from bytes r = Err refusal
seen_at (Ok a) has k from bytes r =
    if r.size == ICE_RECEIVED_SIZE
    then at_address (socket_address from)
    (λ from. at_check (check_given has k) (λ check. seen_by a check from bytes))
    else Err BadArgument

-- ---- what is written about it

-- the numbers of the reasons to drop a datagram
abbrev pub ice_drop_number : DropReason → ℕ
ice_drop_number NotStun = 1
ice_drop_number Malformed = 2
ice_drop_number WrongFingerprint = 3
ice_drop_number UnknownAttribute = 4
ice_drop_number OtherMethod = 5
ice_drop_number NotAsked = 6
ice_drop_number WrongSignature = 7

-- a result with only its kind
abbrev pub ice_blank : ℕ → IceReceived → IceReceived
ice_blank kind r = record {
  size = r.size;
  kind = kind;
  why = 0;
  outcome = 0;
  code = 0;
  priority = 0;
  not_understood = 0;
  nominated = false;
  switched = false;
  length = 0;
  needed = 0;
  mapped = start_for None;
}

-- the result of a caller after a call that failed: it has neither the kind nor the length from
-- before. In a struct of another size only these two fields are written, which it has in each
-- release
abbrev pub ice_failed : IceReceived → IceReceived
ice_failed r = record (if r.size == ICE_RECEIVED_SIZE then ice_blank FAILED r else r) {
  size = r.size;
  kind = FAILED;
  length = 0;
}

-- the outcome of a check of the peer
abbrev pub judged_told : Judged → IceReceived → IceReceived
judged_told (Accepted priority nominated switched) r =
    record r { outcome = 1; priority = priority; nominated = nominated; switched = switched }
judged_told PeerSwitches r = record r { outcome = 2; code = 487 }
judged_told (Refused refusal) r = record r { outcome = 3; code = code_of refusal }

-- why a check of this agent failed
abbrev pub failure_told : Failure → IceReceived → IceReceived
failure_told (ErrorResponse code) r = record r { outcome = 6; code = code }
failure_told OtherPath r = record r { outcome = 7 }
failure_told (NotUnderstood kind) r = record r { outcome = 8; not_understood = kind.0 }
failure_told MalformedResponse r = record r { outcome = 9 }

-- the outcome of the answer to a check of this agent, with the address in it
abbrev pub outcome_told : Outcome → Address → IceReceived → IceReceived
outcome_told (Valid mapped) told r = record r { outcome = 4; mapped = told }
outcome_told (RoleConflict switched) told r =
    record r { outcome = 5; code = 487; switched = switched }
outcome_told (Failed failure) told r = failure_told failure r

-- the result of a caller for the outcome of a datagram, with the address in it
abbrev pub given_told : Given → Address → IceReceived → IceReceived
given_told (checked bytes answer judged) told r =
    record (judged_told judged (ice_blank 1 r)) { length = length answer }
given_told (responded outcome) told r = outcome_told outcome told (ice_blank 4 r)
given_told (indicated bytes) told r = ice_blank 3 r
given_told (dropped why) told r = record (ice_blank 0 r) { why = ice_drop_number why }

-- an address as a caller receives it is the one in a success response
abbrev pub IsMapped : Mapped → Address → Type 0
IsMapped mapped told =
    (address : SocketAddr) × IsHidden mapped.id mapped.attribute (socket_ip address)
    × IsPlainSocket address (xor_port mapped.attribute.port) × (told ≡ caller_address address)

-- the address that is written for a valid pair. For nothing else one is written
abbrev pub TellsMapped : Given → Address → Type 0
TellsMapped (checked bytes answer judged) told = Unit {0}
TellsMapped (responded (Valid mapped)) told = IsMapped mapped told
TellsMapped (responded (RoleConflict switched)) told = Unit {0}
TellsMapped (responded (Failed failure)) told = Unit {0}
TellsMapped (indicated bytes) told = Unit {0}
TellsMapped (dropped why) told = Unit {0}

-- ---- after a call

-- the number for the outcome of a datagram
abbrev pub given_number : Given → ℕ
given_number (checked bytes answer judged) = 1
given_number (responded outcome) = 4
given_number (indicated bytes) = 3
given_number (dropped why) = 0

-- the answer in the outcome of a datagram, in a buffer
abbrev pub answer_in : Given → List ℕ → List ℕ
answer_in (checked bytes answer judged) buffer = answer ++ drop (length answer) buffer
answer_in (responded outcome) buffer = buffer
answer_in (indicated bytes) buffer = buffer
answer_in (dropped why) buffer = buffer

-- the length of an answer that has no room
abbrev pub missing_room : ℕ → Given → Option ℕ
missing_room room (checked bytes answer judged) =
    if nat_lt room (length answer) then Some (length answer) else None
missing_room room (responded outcome) = None
missing_room room (indicated bytes) = None
missing_room room (dropped why) = None

-- a call returns the number for the outcome of a datagram, and leaves the agent, the answer and the
-- result of the caller. If the answer has no room, only how much it needs is written
abbrev pub LeavesSeen : Option ℕ → Seen → ℤ → List ℕ → List ℕ → IceReceived → IceReceived
    → Option Kept → Option Kept → Type 0
LeavesSeen None s result out out' r r' before now =
    (result ≡ pos (given_number s.given)) × (out' ≡ answer_in s.given out)
    × (r' ≡ given_told s.given r'.mapped r) × TellsMapped s.given r'.mapped
    × (now ≡ Some (Checker s.agent))
LeavesSeen (Some missing) s result out out' r r' before now =
    (result ≡ refusal_number BufferTooSmall) × (out' ≡ out)
    × (r' ≡ record r { needed = missing }) × (now ≡ before)

abbrev pub LeavesUnseen : Refusal → ℤ → List ℕ → List ℕ → IceReceived → IceReceived
    → Option Kept → Option Kept → Type 0
LeavesUnseen refusal result out out' r r' before now =
    (result ≡ refusal_number refusal) × (out' ≡ out) × (r' ≡ r) × (now ≡ before)

-- the result of a call that judges a datagram, and what it leaves
abbrev pub SeesAs : Result Seen Refusal → ℤ → List ℕ → List ℕ → IceReceived → IceReceived
    → Option Kept → Option Kept → Type 0
SeesAs (Ok s) result out out' r r' before now =
    LeavesSeen (missing_room (length out) s.given) s result out out' r r' before now
    ⊎ LeavesUnseen OutOfMemory result out out' r r' before now
SeesAs (Err refusal) result out out' r r' before now =
    LeavesUnseen refusal result out out' r r' before now
