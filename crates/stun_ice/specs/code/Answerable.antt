-- A check is only refused for attributes that are not understood if it has such attributes.
use Rattle.std.specs.Prelude.{ℕ, List}
use Rattle.stun_extra.specs.Unknown.{IsRefused}
use Rattle.stun_ice.specs.Parts.{UNDERSTOOD}
use Rattle.stun_ice.specs.declared.checker.judging.Verdict.{Verdict}
use Rattle.stun_ice.specs.declared.checker.judging.Verdict.TheVariants.{Accepted, Conflict, Refused}
use Rattle.stun_ice.specs.declared.checker.receiving.Judgement.{Judgement}
use Rattle.stun_ice.specs.declared.checker.receiving.Judgement.TheVariants.{Check, Response}
use Rattle.stun_ice.specs.declared.checker.receiving.Judgement.TheVariants.{Dropped, Indication}
use Rattle.stun_ice.specs.declared.received.Refusal.{Refusal}
use Rattle.stun_ice.specs.declared.received.Refusal.TheVariants.{BadRequest, Unauthenticated}
use Rattle.stun_ice.specs.declared.received.Refusal.TheVariants.{UnknownAttribute}

-- a check that is refused for this reason has such an attribute
abbrev pub HasRefused : List ℕ → Refusal → Type 0
HasRefused check BadRequest = Unit {0}
HasRefused check Unauthenticated = Unit {0}
HasRefused check UnknownAttribute = IsRefused UNDERSTOOD check

-- an answer to the check can be written
abbrev pub IsAnswerable : List ℕ → Verdict → Type 0
IsAnswerable check (Accepted accepted) = Unit {0}
IsAnswerable check (Conflict algorithm) = Unit {0}
IsAnswerable check (Refused refusal signature) = HasRefused check refusal

-- an answer can be written to each datagram that is judged as a check
abbrev pub AnswersAnswerable : Judgement → Type 0
AnswersAnswerable (Check check verdict) = IsAnswerable check verdict
AnswersAnswerable (Response outcome) = Unit {0}
AnswersAnswerable (Indication bytes) = Unit {0}
AnswersAnswerable (Dropped reason) = Unit {0}
