-- Two agents of one session: what a check of one means to the other, and what its answer means (RFC
-- 8445, sections 7.2 and 7.3).
use Rattle.std.specs.Prelude.{◌≡◌, ◌≤◌, ◌<◌, ◌^◌, ℕ, List, [], Bool, length, not}
use Rattle.std.specs.Prelude.{Option, Some, None}
use Rattle.std.specs.Net.Socket.{socket_ip, socket_port}
use Rattle.std.specs.declared.net.socket_addr.SocketAddr.{SocketAddr}
use Rattle.stun_base.specs.Header.{transaction_id_field, type_field}
use Rattle.stun_base.specs.Keys.{with_colon}
use Rattle.stun_base.specs.MessageType.{class_in, method_of}
use Rattle.stun_base.specs.declared.keys.algorithm.IntegrityAlgorithm.TheVariants.{Sha1}
use Rattle.stun_base.specs.declared.wire.message_type.MessageClass.TheVariants.{Request}
use Rattle.stun_types.specs.Integrity.{verified_algorithm}
use Rattle.stun_types.specs.Limits.{USERNAME_LIMIT}
use Rattle.stun_types.specs.Message.{refusal}
use Rattle.stun_extra.specs.CanonicalAddress.{xored_canonical}
use Rattle.stun_extra.specs.Fingerprint.{fingerprint_in}
use Rattle.stun_extra.specs.Unknown.{unknown_types}
use Rattle.stun_extra.specs.declared.fingerprint.Fingerprint.TheVariants.{Right}
use Rattle.stun_ice.specs.Agent.{Agent, Peer, SentCheck, can_nominate, check_bytes}
use Rattle.stun_ice.specs.Answers.{conflict_answer, success_answer}
use Rattle.stun_ice.specs.Conflicts.{Said}
use Rattle.stun_ice.specs.Parts.{UNDERSTOOD, has_use_candidate, priority_in, rival, username_in}
use Rattle.stun_ice.specs.Received.{Given, checked}
use Rattle.stun_ice.specs.Roles.{is_same_role, opposite}
use Rattle.stun_ice.specs.declared.received.Judged.TheVariants.{Accepted, RoleConflict}
use Rattle.stun_ice.specs.declared.received.Mapped.{Mapped}
use Rattle.stun_ice.specs.declared.role.Role.{Role}

-- ---- the two agents

-- the tie-breaker has 64 bits, and USERNAME of the checks to this peer fits into an attribute. This
-- holds for each agent that `Checker::new` creates, and after `Checker::set_remote`: each name has
-- at most 256 bytes
pub record IsAgent (a : Agent) (peer : Peer) : Type 0 where
  pub name : length peer.outgoing ≤ USERNAME_LIMIT
  pub tie_breaker : a.tie_breaker < 2 ^ 64

-- one agent has the credentials of another, as `Checker::new` and `Checker::set_remote` set them if
-- the `remote` of the one is the `local` of the other. The other may know nothing of the one
pub record Knows (a b : Agent) (peer : Peer) : Type 0 where
  pub known : a.peer ≡ Some peer
  pub name : peer.outgoing ≡ with_colon b.name a.name
  pub password : peer.password ≡ b.password

-- ---- a check

-- the numbers of a check: an ID of 96 bits, and a priority of 32
pub record IsNumbered (id priority : ℕ) : Type 0 where
  pub id_fits : id < 2 ^ 96
  pub priority_fits : priority < 2 ^ 32

-- the bytes are a check of an agent: a Binding request with an ID, with the names of the peer and
-- of the agent in this order, a priority, and the role and the tie-breaker of the agent. It has a
-- digest under the password of the peer, a valid FINGERPRINT, and no attribute that must be
-- understood and is not
pub record SaysCheck (a : Agent) (peer : Peer) (id priority : ℕ) (nominates : Bool)
    (bytes : List ℕ) : Type 0 where
  pub message : refusal bytes ≡ None
  pub fingerprint : fingerprint_in bytes ≡ Right
  pub class : class_in bytes ≡ Request
  pub method : method_of (type_field bytes) ≡ 1
  pub of_id : transaction_id_field bytes ≡ id
  pub name : username_in bytes ≡ Some peer.outgoing
  pub digest : verified_algorithm bytes peer.password ≡ Some Sha1
  pub understood : unknown_types UNDERSTOOD bytes ≡ []
  pub priority_is : priority_in bytes ≡ Some priority
  pub role : rival a.role bytes ≡ Some a.tie_breaker
  pub no_other_role : rival (opposite a.role) bytes ≡ None
  pub nominated : has_use_candidate bytes ≡ nominates

-- what the checks of an agent state of it
abbrev pub said_by : Agent → Said
said_by a = record { role = a.role; tie_breaker = a.tie_breaker }

-- what is returned to the caller of an agent for a check of its peer, given the role of the agent
-- after the check: a 487 if the peer has to switch, and otherwise a success. The check nominates
-- its pair only to an agent that is controlled
abbrev pub given_by : Agent → SocketAddr → List ℕ → ℕ → Bool → Option Role → Given
given_by b from bytes priority nominates None =
    checked bytes (conflict_answer b bytes Sha1) RoleConflict
given_by b from bytes priority nominates (Some role) =
    checked bytes (success_answer b from bytes Sha1)
    (Accepted priority (can_nominate (opposite role) nominates) (not (is_same_role b.role role)))

-- the role of an agent after the check, if its role before was this one
abbrev pub role_by : Role → Option Role → Role
role_by before None = before
role_by before (Some role) = role

-- a check as its agent stores it
abbrev pub written_check : Agent → Peer → ℕ → SocketAddr → ℕ → Bool → SentCheck
written_check a peer id to priority nominates = record {
  id = id;
  to = to;
  role = a.role;
  nominates = nominates;
  bytes = check_bytes a peer id priority nominates;
}

-- ---- its answer

-- an address as it is in the answer to a check with an ID
abbrev pub mapped_of : SocketAddr → ℕ → Mapped
mapped_of from id =
    record { attribute = xored_canonical (socket_ip from) (socket_port from) id; id = id }
