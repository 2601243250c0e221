-- What is told of a request has the key of its user, as one block.
use Rattle.stun_c_endpoint.proofs.ReplyLemmas.{reply_signs}
use Rattle.stun_c_endpoint.proofs.laws.replies_sign_for_the_user.Goals as goal

pub returns : goal.returns
returns c = λ judge from seconds bytes result out out' r r'. reply_signs judge from seconds bytes
    result out out' r r'
