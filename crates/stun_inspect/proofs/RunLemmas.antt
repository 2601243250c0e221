-- What is printed on an input is what is printed on the bytes that were read of it.
use Rattle.std.proofs.Common.{◌≡◌, ℕ, true, Option, Some, None, Result}
use Rattle.std.proofs.Common.{Ok, Err, List, IfSome, IfOk, ◌∙◌, ap, subst}
use Rattle.stun_inspect.specs.declared.failure.Failure.{Failure}
use Rattle.stun_cli.specs.declared.status.Status.{Status}
use Rattle.stun_inspect.specs.Input.{is_raw}

-- what holds of the bytes that were read holds of a raw input
pub of_raw_input : (given : Option (List ℕ)) (items : List ℕ) (result : Result Status Failure)
    (P : List ℕ → Status → Type 0)
    → IfSome given (λ input. items ≡ input)
    → (is_raw items ≡ true → IfOk result (P items))
    → IfSome given (λ input. IfOk result (λ status. is_raw input ≡ true → P input status))
of_raw_input None items result P same printed = tt
of_raw_input (Some input) items (Err error) P same printed = tt
of_raw_input (Some input) items (Ok status) P same printed = λ raw.
    subst (λ all. P all status) same (printed (ap is_raw same ∙ raw))
