-- What is built from the settings that a caller passes.
use Rattle.std.specs.Prelude.{◌≡◌, Option, Result, Err, IfOk, IsOkUnless, MatchOption}
use Rattle.stun_numbers.specs.declared.refusal.Refusal.{Refusal}
use Rattle.stun_numbers.specs.declared.refusal.Refusal.TheVariants.{OutOfMemory}

-- settings are refused for the first reason that applies. Without one only an allocation can fail
abbrev pub RefusedFor : {V : Type 0} → Option Refusal → Result V Refusal → Type 0
RefusedFor refusal result =
    MatchOption refusal (IsOkUnless result OutOfMemory) (λ first. result ≡ Err first)

-- this value is built from settings, unless they are refused
pub record Builds {V : Type 0} (refusal : Option Refusal) (value : V) (result : Result V Refusal)
    : Type 0 where
  pub refused : RefusedFor refusal result
  pub built : IfOk result (λ made. made ≡ value)
