-- The outcome of adding one attribute after another.
use Rattle.std.specs.Prelude.{◌≡◌, ℕ, ◌+◌, ◌≤◌, List, Result, Ok, Err, OnOk}
use Rattle.stun_base.specs.declared.wire.error.StunWriteError.{StunWriteError}
use Rattle.stun_judging.specs.Additions.{Addition, Page, UnlessMemory, WantsMemory, added_all}
use Rattle.stun_judging.specs.Additions.{growth}

-- a result, with the page after a success
abbrev pub outcome_of : {V : Type 0} → Result V StunWriteError → Page → Result Page StunWriteError
outcome_of (Ok value) page = Ok page
outcome_of (Err reason) page = Err reason

-- a call returns the outcome of the additions on the page before it. It fails because of an
-- allocation only if they need one
abbrev pub IsOutcome : List Addition → Page → ℕ → Result (Unit {0}) StunWriteError → Page → Type 0
IsOutcome list page reserved result page_after =
    UnlessMemory result (outcome_of result page_after ≡ added_all list page)
    (WantsMemory list page reserved)

-- the call does so, and the bytes that it does not use stay reserved
pub record IsAdded (list : List Addition) (page : Page) (reserved : ℕ)
    (result : Result (Unit {0}) StunWriteError) (page_after : Page) (reserved_after : ℕ) : Type
    0 where
  pub outcome : IsOutcome list page reserved result page_after
  pub kept : OnOk result (reserved ≤ reserved_after + growth list)
