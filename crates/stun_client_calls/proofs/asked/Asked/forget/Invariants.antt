-- those that are left are to be removed
use Rattle.std.proofs.Common.{◌≡◌, length}
use Rattle.stun_client_calls.specs.Endpoints.{without_all}
use Rattle.stun_client_calls.proofs.asked.Asked.forget.Given as goal

abbrev pub invariant-loop-sent : goal.invariant-loop-sent
invariant-loop-sent g l =
    without_all l.earlier.entries l.all.entries
    ≡ without_all l.initial.earlier.entries l.initial.all.entries

abbrev pub decreases-loop-sent : goal.decreases-loop-sent
decreases-loop-sent g l = length l.earlier.entries
