-- the algorithms before the index are copied
use Rattle.std.proofs.Common.{◌≡◌, take}
use Rattle.stun_auth.proofs.client.challenge.copy_list.Given as goal

abbrev pub invariant-loop-i : goal.invariant-loop-i
invariant-loop-i g l = l.copy.items ≡ take l.i l.list
