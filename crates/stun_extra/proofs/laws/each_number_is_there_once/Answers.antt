-- Later copies are left out, so a number that is there is counted once.
use Rattle.stun_extra.proofs.OnceLemmas.{without_repeats-count}
use Rattle.stun_extra.proofs.laws.each_number_is_there_once.Goals as goal

pub returns : goal.returns
returns c = without_repeats-count
