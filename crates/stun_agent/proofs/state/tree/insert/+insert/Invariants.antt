-- A link of a fork has fewer levels below it than the fork.
use Rattle.std.proofs.Common.{◌+◌, ◌*◌}
use Rattle.stun_agent.proofs.state.tree.insert.+insert.Given as goal

abbrev pub decreases-insert : goal.decreases-insert
decreases-insert g l = 3 * l.levels + 2

abbrev pub decreases-insert_below : goal.decreases-insert_below
decreases-insert_below g l = 3 * l.levels + 1

abbrev pub decreases-insert_into : goal.decreases-insert_into
decreases-insert_into g l = 3 * l.levels
