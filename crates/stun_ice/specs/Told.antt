-- When the caller learns that a check is accepted, or that a pair is valid.
use Rattle.std.specs.Prelude.{◌≡◌, List, ℕ, Option, Some}
use Rattle.std.specs.declared.net.socket_addr.SocketAddr.{SocketAddr}
use Rattle.stun_ice.specs.Agent.{Agent, SentCheck}
use Rattle.stun_ice.specs.Checks.{Accepts}
use Rattle.stun_ice.specs.Received.{Given, checked, dropped, indicated, responded}
use Rattle.stun_ice.specs.Responses.{IsValid}
use Rattle.stun_ice.specs.declared.checker.judging.Acceptance.{Acceptance}
use Rattle.stun_ice.specs.declared.received.Judged.TheVariants.{Accepted, Refused}
use Rattle.stun_ice.specs.declared.received.Judged.TheVariants.{RoleConflict as PeerSwitches}
use Rattle.stun_ice.specs.declared.received.Mapped.{Mapped}
use Rattle.stun_ice.specs.declared.received.Outcome.TheVariants.{Failed, RoleConflict, Valid}

-- the caller learns that a check is accepted
abbrev pub TellsAccepted : Given → Type 0
TellsAccepted (checked bytes answer (Accepted priority nominated switched)) = Unit {0}
TellsAccepted (checked bytes answer PeerSwitches) = ⊥
TellsAccepted (checked bytes answer (Refused reason)) = ⊥
TellsAccepted (responded outcome) = ⊥
TellsAccepted (indicated bytes) = ⊥
TellsAccepted (dropped reason) = ⊥

-- the caller learns that a pair is valid
abbrev pub TellsValid : Given → Type 0
TellsValid (checked bytes answer judged) = ⊥
TellsValid (responded (Valid mapped)) = Unit {0}
TellsValid (responded (RoleConflict switched)) = ⊥
TellsValid (responded (Failed failure)) = ⊥
TellsValid (indicated bytes) = ⊥
TellsValid (dropped reason) = ⊥

-- a datagram is a check that an agent accepts
abbrev pub IsAcceptedCheck : Agent → List ℕ → Type 0
IsAcceptedCheck a bytes = (check : Acceptance) × Accepts a bytes check

-- a datagram from an address makes the pair of the check that was passed valid
abbrev pub IsValidAnswer : Agent → Option SentCheck → SocketAddr → List ℕ → Type 0
IsValidAnswer a c from bytes =
    (check : SentCheck) × (c ≡ Some check) × ((mapped : Mapped) × IsValid a check from bytes mapped)
