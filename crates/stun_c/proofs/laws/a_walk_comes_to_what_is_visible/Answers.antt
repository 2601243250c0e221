-- Each call leaves one attribute fewer ahead.
use Rattle.stun_c.proofs.Walking.{walks-come}
use Rattle.stun_c.proofs.laws.a_walk_comes_to_what_is_visible.Goals as goal

pub returns : goal.returns
returns c = walks-come
