-- The result of opening a capture.
use Rattle.std.specs.Prelude.{⊤}
use Rattle.stun_inspect.specs.declared.input.Input.{Input}
use Rattle.stun_inspect.specs.declared.input.Input.TheVariants.{Capture, Bytes}

-- the input is a capture
abbrev pub IsCapture : {A : Type 0} → Input A → Type 0
IsCapture (Capture capture begun) = ⊤
IsCapture (Bytes bytes) = ⊥
