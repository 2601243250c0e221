-- Outstanding requests that are borrowed with their agent.
use Rattle.std.specs.Prelude.{◌≡◌, Option, []}
use Rattle.std.specs.Borrow.{Fml, RattleType, MutBor, Lends, RestsIfNone}
use mir.Syntax.{named}
use Rattle.std.specs.declared.alloc.Allocator as alloc
use Rattle.std.specs.declared.net.socket_addr.SocketAddr.{SocketAddr}
use Rattle.stun_base.specs.declared.keys.algorithm.IntegrityAlgorithm.{IntegrityAlgorithm}
use Rattle.stun_agent.specs.declared.calls.request.StunRequestMut.{StunRequestMut}
use Rattle.stun_agent.specs.contracts.agent.StunAgent.{the_row}
use Rattle.stun_agent.specs.contracts.calls.request.StunRequestMut.{the_row as request_row}
use Rattle.stun_agent.specs.Agent.{Agent, with_transactions}
use Rattle.stun_agent.specs.Transactions.{Transaction, Transactions}

-- the address that a request was sent to, and the algorithm of its integrity attribute
abbrev pub peer_and_integrity : Transaction → SocketAddr × Option IntegrityAlgorithm
peer_and_integrity t = (t.to, t.integrity)

-- the handle to a request is the same as before, except that its agent has these transactions
pub record StaysWith {A : Type 0} (old new : StunRequestMut A) (all : Transactions) : Type 0 where
  pub same_reference : new.agent.ghost_name ≡ old.agent.ghost_name
  pub agent : new.agent.now ≡ with_transactions old.agent.now all
  pub id : new.id ≡ old.id
  pub peer_address : new.peer_address ≡ old.peer_address
  pub integrity : new.integrity ≡ old.integrity

-- when the borrow ends, the agent is as the handle to the request leaves it. If there is no such
-- request, the agent is unchanged
abbrev pub rests : (A : RattleType) → alloc.Ghosts A.Denot → MutBor Agent
    → Option (StunRequestMut A.Denot) → Fml
rests A heap agent request =
    RestsIfNone (the_row A heap) agent (λ r. r.agent.ghost_name) request (λ n. n ≡ agent.now)

-- when the borrow of the agent ends, the handle to the request has the agent as the borrow left it
abbrev pub lends_agent : (A : RattleType) → alloc.Ghosts A.Denot → MutBor (StunRequestMut A.Denot)
    → MutBor Agent → Fml
lends_agent A heap request lent =
    Lends (request_row (record { mir = named 1; lft = [] }) A heap) (the_row A heap) request lent
    (λ agent. record request.now { agent = record request.now.agent { now = agent } })
