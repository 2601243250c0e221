-- The nonce of the epoch before is stale in this one, and then it is tried.
use Rattle.stun_auth.proofs.JudgedEpochs.{accepted_in}
use Rattle.stun_auth.proofs.laws.two_epochs_accept_what_one_does.Goals as goal

pub returns : goal.returns
returns c = λ s words epoch r client. accepted_in s words r client epoch
