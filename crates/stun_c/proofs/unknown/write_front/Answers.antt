-- The header, and the error after it.
use Rattle.stun_c.proofs.Refused.{front_written}
use Rattle.stun_c.proofs.unknown.write_front.Goals as goal

pub returns : goal.returns
returns c =
    front_written c.args.request.now c.args.out.now c.begin_answer.new.out c.append_error.new.out
    c.begin_answer.ensures c.append_error.ensures
