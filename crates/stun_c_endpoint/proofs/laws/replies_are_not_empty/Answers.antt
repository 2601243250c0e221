-- No number of a reply is 0, and its key is one block at most.
use Rattle.stun_c_endpoint.proofs.ReplyLemmas.{reply_told_whole}
use Rattle.stun_c_endpoint.proofs.laws.replies_are_not_empty.Goals as goal

pub returns : goal.returns
returns c = λ judge from seconds bytes result out out' r r'. reply_told_whole judge from seconds
    bytes result out out' r r'
