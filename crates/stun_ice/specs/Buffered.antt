-- The outcome that the result of `receive_into` describes, with the bytes that the call leaves in
-- the buffer.
use Rattle.std.specs.Prelude.{◌≡◌, ℕ, List, []}
use Rattle.stun_ice.specs.Received.{Given, checked, dropped, indicated, responded}
use Rattle.stun_ice.specs.declared.received.ReceivedInto.{ReceivedInto}
use Rattle.stun_ice.specs.declared.received.ReceivedInto.TheVariants as code

abbrev pub given_in : ReceivedInto → List ℕ → Given
given_in (code.Check message judged) bytes = checked message bytes judged
given_in (code.Response outcome) bytes = responded outcome
given_in (code.Indication message) bytes = indicated message
given_in (code.Dropped reason) bytes = dropped reason

-- the buffer is empty if there is no answer
abbrev pub LeavesNoAnswer : ReceivedInto → List ℕ → Type 0
LeavesNoAnswer (code.Check message judged) bytes = Unit {0}
LeavesNoAnswer (code.Response outcome) bytes = bytes ≡ []
LeavesNoAnswer (code.Indication message) bytes = bytes ≡ []
LeavesNoAnswer (code.Dropped reason) bytes = bytes ≡ []
