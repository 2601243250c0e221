-- What was passed decides what is visible.
use Rattle.stun_types.proofs.VisibleLemmas.{visible_after-header}
use Rattle.stun_types.proofs.laws.a_walk_finds_what_is_visible.Goals as goal

pub returns : goal.returns
returns c = λ bytes. visible_after-header bytes
