-- Two agents that check each other, over a network that loses, repeats, delays and reorders
-- datagrams (RFC 8445, sections 7.2.5.1 and 7.3.1.1). Only the roles in the messages matter here.
use Rattle.std.specs.Prelude.{◌≡◌, ℕ, zero, suc, List, [], ◌∷◌, Bool, true, false, nat_lt}
use Rattle.std.specs.Prelude.{if◌then◌else◌, Option, Some, None}
use Rattle.stun_ice.specs.Received.{role_after_outcome}
use Rattle.stun_ice.specs.Roles.{is_same_role, opposite, role_after_check}
use Rattle.stun_ice.specs.declared.received.Outcome.TheVariants.{RoleConflict}
use Rattle.stun_ice.specs.declared.role.Role.{Role}
use Rattle.stun_ice.specs.declared.role.Role.TheVariants.{Controlling, Controlled}

-- the role and the tie-breaker that a check states for its sender
pub record Said : Type 0 where
  pub role : Role
  pub tie_breaker : ℕ

-- an answer: the role in which its check was sent, and whether the answer is a 487
pub record Told : Type 0 where
  pub role : Role
  pub conflict : Bool

-- one of the two agents: its role and tie-breaker, all checks that it has sent and all answers to
-- them, the newest first, and whether an answer has arrived
pub record Side : Type 0 where
  pub role : Role
  pub tie_breaker : ℕ
  pub checks : List Said
  pub answers : List Told
  pub heard : Bool

pub record Sides : Type 0 where
  pub left : Side
  pub right : Side

abbrev pub swapped : Sides → Sides
swapped s = record { left = s.right; right = s.left }

-- an agent at the beginning
abbrev pub beginning : Role → ℕ → Side
beginning role tie =
    record { role = role; tie_breaker = tie; checks = []; answers = []; heard = false }

-- ---- events, each with a check of the left agent, or with one of the right agent

pub data Event : Type 0 where
  -- the agent sends a check
  sends : Event
  -- the check with this number arrives at the other agent: once, again, or never
  arrives : ℕ → Event
  -- the answer with this number arrives. After a 487 the agent has this tie-breaker
  hears : ℕ → ℕ → Event

pub data Happening : Type 0 where
  of_left : Event → Happening
  of_right : Event → Happening

-- the message with a number, if there is one
abbrev pub at : {A : Type 0} → ℕ → List A → Option A
at n [] = None
at zero (x ∷ xs) = Some x
at (suc n) (x ∷ xs) = at n xs

-- the tie-breaker of a check, if it states that its sender has this role
abbrev pub rival_of : Role → Said → Option ℕ
rival_of role said = if is_same_role role said.role then Some said.tie_breaker else None

-- both agents after the right agent has answered a check of the left agent. `Some` has the role
-- that the right agent then has, and after `None` the answer is a 487
abbrev pub answered : Sides → Said → Option Role → Sides
answered s said None = record s {
  left = record s.left {
    answers = record { role = said.role; conflict = true } ∷ s.left.answers;
  };
}
answered s said (Some role) = record {
  left = record s.left {
    answers = record { role = said.role; conflict = false } ∷ s.left.answers;
  };
  right = record s.right { role = role };
}

abbrev pub after_check : Sides → Option Said → Sides
after_check s None = s
after_check s (Some said) =
    answered s said
    (role_after_check s.right.role s.right.tie_breaker (rival_of s.right.role said))

abbrev pub after_told : Side → ℕ → Option Told → Side
after_told side fresh None = side
after_told side fresh (Some told) =
    if told.conflict
    then record side {
      role = role_after_outcome side.role (RoleConflict (is_same_role side.role told.role));
      tie_breaker = fresh;
      heard = true;
    }
    else record side { heard = true }

-- the left agent sends a check
abbrev pub after_sending : Side → Side
after_sending side = record side {
  checks = record { role = side.role; tie_breaker = side.tie_breaker } ∷ side.checks;
}

abbrev pub after_event : Sides → Event → Sides
after_event s sends = record s { left = after_sending s.left }
after_event s (arrives n) = after_check s (at n s.left.checks)
after_event s (hears n fresh) = record s { left = after_told s.left fresh (at n s.left.answers) }

abbrev pub after_one : Sides → Happening → Sides
after_one s (of_left event) = after_event s event
after_one s (of_right event) = swapped (after_event (swapped s) event)

-- both agents after events, in their order
abbrev pub after_all : Sides → List Happening → Sides
after_all s [] = s
after_all s (event ∷ events) = after_all (after_one s event) events

-- ---- the roles in which they end

-- the role in which an agent ends if both agents begin in the same role: the agent with the larger
-- tie-breaker is controlling
abbrev pub settled_role : ℕ → ℕ → Role
settled_role ours theirs = if nat_lt theirs ours then Controlling else Controlled

-- both agents have the roles that follow from their tie-breakers
pub record AreSettled (left_tie right_tie : ℕ) (s : Sides) : Type 0 where
  pub left : s.left.role ≡ settled_role left_tie right_tie
  pub right : s.right.role ≡ opposite (settled_role left_tie right_tie)
