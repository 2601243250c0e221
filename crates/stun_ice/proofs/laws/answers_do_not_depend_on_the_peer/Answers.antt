-- A check is judged and answered by what the agent has of its own.
use Rattle.stun_ice.proofs.EarlyLemmas.{needs-no-peer}
use Rattle.stun_ice.proofs.laws.answers_do_not_depend_on_the_peer.Goals as goal

pub returns : goal.returns
returns c = λ a peer c d from bytes. needs-no-peer a c from bytes peer d
