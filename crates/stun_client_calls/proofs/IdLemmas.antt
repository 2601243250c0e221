-- The first number that is not taken, one number after another.
use Rattle.std.proofs.Common.{◌≡◌, ℕ, suc, ◌+◌, ◌-◌, ◌<◌, List, Some, ap, arith, cond}
use Rattle.stun_agent.specs.Tables.{Attached}
use Rattle.stun_client_requests.specs.Requests.{LAST_NUMBER}
use Rattle.stun_client_requests.specs.declared.requests.Request.{Request}
use Rattle.stun_client_calls.specs.Ids.{Earlier, first_free, free_number, is_taken}
use Rattle.stun_client_calls.specs.Messages.{AskedSeen}

-- the number itself, or the first one after it
pub free_at : (seed : List ℕ) (all : Attached (Request AskedSeen)) (earlier : Earlier) (number : ℕ)
    → number < LAST_NUMBER
    → free_number seed all earlier number
    ≡ cond (is_taken seed all earlier number) (free_number seed all earlier (number + 1))
    (Some number)
free_at seed all earlier number before =
    let one_less : LAST_NUMBER - number ≡ suc (LAST_NUMBER - (number + 1)) = omega arith in
    ap (λ many. first_free (is_taken seed all earlier) number many) one_less
