-- What holds of one datagram holds at each index.
use Rattle.stun_auth.proofs.JudgedDatagrams.{judged_alone}
use Rattle.stun_auth.proofs.laws.datagrams_are_judged_alone.Goals as goal

pub returns : goal.returns
returns c = judged_alone
