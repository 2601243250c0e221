-- What is believed without a valid signature is accepted unsigned, of the current message.
use Rattle.stun_client.proofs.JudgingLemmas.{unsigned_ends}
use Rattle.stun_client.proofs.laws.unsigned_errors_end_nothing.Goals as goal

pub returns : goal.returns
returns c = unsigned_ends
