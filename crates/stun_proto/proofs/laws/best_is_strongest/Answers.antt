-- Both lists are seen as what they have of each algorithm, and the greatest of two is found by
-- cases.
use Rattle.stun_proto.proofs.meetings.Strongest.{best_is}
use Rattle.stun_proto.proofs.laws.best_is_strongest.Goals as goal

pub returns : goal.returns
returns c = best_is
