-- Two agents of one session that send each other datagrams (RFC 8445, sections 7.2 and 7.3). An
-- agent judges a datagram as `stun_ice` judges its bytes.
use Rattle.std.specs.Prelude.{◌≡◌, ◌≢◌, ◌⊎◌, ◌<◌, ◌^◌, ℕ, List, [], ◌∷◌, Bool, true, false, Option}
use Rattle.std.specs.Prelude.{Some, None}
use Rattle.std.specs.List.{AllByRecursion}
use Rattle.std.specs.Net.Socket.{IsSocketAddr}
use Rattle.std.specs.declared.net.socket_addr.SocketAddr.{SocketAddr}
use Rattle.stun_ice.specs.Agent.{Agent, Peer, check_bytes}
use Rattle.stun_ice.specs.Conflicts.{Said, at, settled_role}
use Rattle.stun_ice.specs.Received.{Given, checked, dropped, given, indicated, judgement_of}
use Rattle.stun_ice.specs.Received.{responded, role_after_outcome, role_left}
use Rattle.stun_ice.specs.Roles.{opposite}
use Rattle.stun_ice.specs.declared.received.Outcome.TheVariants.{Failed, RoleConflict, Valid}
use Rattle.stun_ice.specs.declared.role.Role.{Role}
use Rattle.stun_peers.specs.Peers.{IsAgent, IsNumbered, Knows, written_check}

-- ---- what is on the network

-- a check that was sent: the role and the tie-breaker that its agent had, its ID, its destination,
-- its priority, and whether it nominates
pub record Posted : Type 0 where
  pub said : Said
  pub id : ℕ
  pub to : SocketAddr
  pub priority : ℕ
  pub nominates : Bool

-- an answer that was sent: its check, the role and the tie-breaker that its agent then had, and the
-- address that the check came from
pub record Replied : Type 0 where
  pub check : Posted
  pub by : Said
  pub from : SocketAddr

-- one of two agents: its role and its tie-breaker, all the checks that it has sent and all the
-- answers to them, the newest first, and whether an answer has arrived
pub record Party : Type 0 where
  pub now : Said
  pub posted : List Posted
  pub replied : List Replied
  pub heard : Bool

pub record Parties : Type 0 where
  pub left : Party
  pub right : Party

abbrev pub turned_parties : Parties → Parties
turned_parties s = record { left = s.right; right = s.left }

-- an agent with the credentials of its peer
pub record Correspondent : Type 0 where
  pub agent : Agent
  pub peer : Peer

-- each of two agents has the credentials of the other
pub record Correspond (a b : Correspondent) : Type 0 where
  pub there : Knows a.agent b.agent a.peer
  pub back : Knows b.agent a.agent b.peer

-- an agent with this role and this tie-breaker
abbrev pub agent_as : Agent → Said → Agent
agent_as a said = record a { role = said.role; tie_breaker = said.tie_breaker }

-- an agent at the beginning
abbrev pub party_of : Agent → Party
party_of a = record {
  now = record { role = a.role; tie_breaker = a.tie_breaker };
  posted = [];
  replied = [];
  heard = false;
}

-- ---- the bytes

-- a check of an agent, as it is sent
abbrev pub bytes_posted : Correspondent → Posted → List ℕ
bytes_posted a p = check_bytes (agent_as a.agent p.said) a.peer p.id p.priority p.nominates

-- the answer that an agent sends, if there is one
abbrev pub answer_sent : Given → List ℕ
answer_sent (checked bytes answer judged) = answer
answer_sent (responded outcome) = []
answer_sent (indicated bytes) = []
answer_sent (dropped why) = []

-- the answer of an agent to a check of its peer, as it is sent
abbrev pub bytes_replied : Correspondent → Correspondent → Replied → List ℕ
bytes_replied a b r =
    let answerer = agent_as b.agent r.by in
    answer_sent (given answerer r.from (judgement_of answerer None r.from (bytes_posted a r.check)))

-- ---- events: each datagram is of a check of the left agent, or of one of the right agent

pub data Delivery : Type 0 where
  -- the agent sends a check, with an ID, to an address, with a priority, and nominates or not
  sends : ℕ → SocketAddr → ℕ → Bool → Delivery
  -- the check with this number arrives at the other agent, from this address: once, again, or
  -- never
  arrives : ℕ → SocketAddr → Delivery
  -- the answer with this number arrives from the address that its check was sent to. After a 487
  -- the agent has this tie-breaker
  hears : ℕ → ℕ → Delivery

pub data Posting : Type 0 where
  of_left : Delivery → Posting
  of_right : Delivery → Posting

-- the agent `a`, which is the left one, sends a check
abbrev pub after_posting : Party → ℕ → SocketAddr → ℕ → Bool → Party
after_posting party id to priority nominates = record party {
  posted = record {
    said = record { role = party.now.role; tie_breaker = party.now.tie_breaker };
    id = id;
    to = to;
    priority = priority;
    nominates = nominates;
  } ∷ party.posted;
}

-- the check arrives at the agent `b`, which answers it, and then has the role that follows from its
-- bytes
abbrev pub after_arrival : Correspondent → Correspondent → Parties → SocketAddr → Option Posted → Parties
after_arrival a b s from None = s
after_arrival a b s from (Some p) = record {
  left = record s.left {
    replied = record { check = p; by = s.right.now; from = from } ∷ s.left.replied;
  };
  right = record s.right {
    now = record s.right.now {
      role = role_left s.right.now.role
          (judgement_of (agent_as b.agent s.right.now) None from (bytes_posted a p));
    };
  };
}

-- the agent after the result for an answer
abbrev pub after_given : Party → ℕ → Given → Party
after_given party fresh (responded (RoleConflict switched)) = record party {
  now = record {
    role = role_after_outcome party.now.role (RoleConflict switched);
    tie_breaker = fresh;
  };
  heard = true;
}
after_given party fresh (responded (Valid mapped)) = record party { heard = true }
after_given party fresh (responded (Failed failure)) = party
after_given party fresh (checked bytes answer judged) = party
after_given party fresh (indicated bytes) = party
after_given party fresh (dropped why) = party

-- the answer arrives at the agent `a`
abbrev pub after_reply : Correspondent → Correspondent → Party → ℕ → Option Replied → Party
after_reply a b party fresh None = party
after_reply a b party fresh (Some r) =
    let hearer = agent_as a.agent party.now in
    let p = r.check in
    let check = written_check (agent_as a.agent p.said) a.peer p.id p.to p.priority p.nominates in
    after_given party fresh
    (given hearer p.to (judgement_of hearer (Some check) p.to (bytes_replied a b r)))

abbrev pub after_datagram : Correspondent → Correspondent → Parties → Delivery → Parties
after_datagram a b s (sends id to priority nominates) =
    record s { left = after_posting s.left id to priority nominates }
after_datagram a b s (arrives n from) = after_arrival a b s from (at n s.left.posted)
after_datagram a b s (hears n fresh) =
    record s { left = after_reply a b s.left fresh (at n s.left.replied) }

abbrev pub after_turn : Correspondent → Correspondent → Parties → Posting → Parties
after_turn a b s (of_left datagram) = after_datagram a b s datagram
after_turn a b s (of_right datagram) =
    turned_parties (after_datagram b a (turned_parties s) datagram)

-- both agents after datagrams, in their order
abbrev pub after_postings : Correspondent → Correspondent → Parties → List Posting → Parties
after_postings a b s [] = s
after_postings a b s (posting ∷ postings) = after_postings a b (after_turn a b s posting) postings

-- ---- the roles in which they end

-- an ID has 96 bits, a priority 32 and a tie-breaker 64, and an address is one of a socket
abbrev pub IsUsualDelivery : Delivery → Type 0
IsUsualDelivery (sends id to priority nominates) = IsNumbered id priority
IsUsualDelivery (arrives n from) = IsSocketAddr from
IsUsualDelivery (hears n fresh) = fresh < 2 ^ 64

abbrev pub IsUsual : Posting → Type 0
IsUsual (of_left datagram) = IsUsualDelivery datagram
IsUsual (of_right datagram) = IsUsualDelivery datagram

-- both agents after all that is sent between them
abbrev pub both_after : Correspondent → Correspondent → List Posting → Parties
both_after a b postings =
    after_postings a b (record { left = party_of a.agent; right = party_of b.agent }) postings

-- both have the role that they began in, and no answer has arrived
pub record AreUnsettled (role : Role) (s : Parties) : Type 0 where
  pub left : s.left.now.role ≡ role
  pub right : s.right.now.role ≡ role
  pub left_deaf : s.left.heard ≡ false
  pub right_deaf : s.right.heard ≡ false

-- both have the roles that follow from the tie-breakers with which they began
pub record AreSettledParties (left_tie right_tie : ℕ) (s : Parties) : Type 0 where
  pub left : s.left.now.role ≡ settled_role left_tie right_tie
  pub right : s.right.now.role ≡ opposite (settled_role left_tie right_tie)

abbrev pub RolesEnd : Type 0
RolesEnd =
    (a b : Correspondent) (postings : List Posting) → IsAgent a.agent a.peer
    → IsAgent b.agent b.peer → Correspond a b → b.agent.role ≡ a.agent.role
    → a.agent.tie_breaker ≢ b.agent.tie_breaker → AllByRecursion IsUsual postings
    → AreUnsettled a.agent.role (both_after a b postings)
    ⊎ AreSettledParties a.agent.tie_breaker b.agent.tie_breaker (both_after a b postings)

abbrev pub RolesStay : Type 0
RolesStay =
    (a b : Correspondent) (postings : List Posting) → IsAgent a.agent a.peer
    → IsAgent b.agent b.peer → Correspond a b → b.agent.role ≡ opposite a.agent.role
    → AllByRecursion IsUsual postings
    → ((both_after a b postings).left.now.role ≡ a.agent.role)
    × ((both_after a b postings).right.now.role ≡ opposite a.agent.role)
