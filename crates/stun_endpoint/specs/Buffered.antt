-- The outcomes that the results of `receive_into` describe, with the bytes that the call leaves in
-- the buffer.
use Rattle.std.specs.Prelude.{◌≡◌, ℕ, List, []}
use Rattle.stun_endpoint.specs.Lookups.{Identification, done, looked_up}
use Rattle.stun_endpoint.specs.Responding.{Answer, OutcomeOf, answered, dropped, indicated}
use Rattle.stun_endpoint.specs.Responding.{requested, responded}
use Rattle.stun_endpoint.specs.declared.buffered.BufferedAnswer.{BufferedAnswer}
use Rattle.stun_endpoint.specs.declared.buffered.ReceivedInto.{ReceivedInto}
use Rattle.stun_endpoint.specs.declared.buffered.ReceivedInto.TheVariants as code
use Rattle.stun_endpoint.specs.declared.buffered.IdentifiedInto.{IdentifiedInto}
use Rattle.stun_endpoint.specs.declared.buffered.IdentifiedInto.TheVariants as known_code

-- a response with the bytes in the buffer
abbrev pub with_bytes : BufferedAnswer → List ℕ → Answer
with_bytes answer bytes = record { to = answer.to; refusal = answer.refusal; bytes = bytes }

abbrev pub outcome_in : {R I : Type 0} → ReceivedInto R I → List ℕ → OutcomeOf R I
outcome_in (code.Answer answer) bytes = answered (with_bytes answer bytes)
outcome_in (code.Request request) bytes = requested request
outcome_in (code.Indication indication) bytes = indicated indication
outcome_in (code.Response message) bytes = responded message
outcome_in (code.Dropped reason) bytes = dropped reason

-- the buffer is empty if there is no response
abbrev pub LeavesNothing : {R I : Type 0} → ReceivedInto R I → List ℕ → Type 0
LeavesNothing (code.Answer answer) bytes = Unit {0}
LeavesNothing (code.Request request) bytes = bytes ≡ []
LeavesNothing (code.Indication indication) bytes = bytes ≡ []
LeavesNothing (code.Response message) bytes = bytes ≡ []
LeavesNothing (code.Dropped reason) bytes = bytes ≡ []

-- ---- a server that looks up its users

abbrev pub identification_in : {A : Type 0} → IdentifiedInto A → List ℕ → Identification
identification_in (known_code.Done received) bytes = done (outcome_in received bytes)
identification_in (known_code.Lookup lookup) bytes = looked_up lookup

-- the buffer is empty if there is no response, for example while the request waits for its user
abbrev pub LeavesNothingKnown : {A : Type 0} → IdentifiedInto A → List ℕ → Type 0
LeavesNothingKnown (known_code.Done received) bytes = LeavesNothing received bytes
LeavesNothingKnown (known_code.Lookup lookup) bytes = bytes ≡ []
