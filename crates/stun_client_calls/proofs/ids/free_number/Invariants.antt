-- the numbers before this one are taken
use Rattle.std.proofs.Common.{◌≡◌}
use Rattle.stun_client_calls.specs.Ids.{free_number}
use Rattle.stun_client_calls.proofs.ids.free_number.Given as goal

abbrev pub invariant-loop-number : goal.invariant-loop-number
invariant-loop-number g l =
    free_number l.seed l.requests.table.attached l.earlier.entries l.number
    ≡ free_number l.seed l.requests.table.attached l.earlier.entries l.next
