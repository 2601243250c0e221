-- What the caller is told is judged as the definitions say.
use Rattle.std.specs.Option.{option_copied}
use Rattle.stun_ice.proofs.AcceptingLemmas.{result_accepted, result_valid}
use Rattle.stun_ice.proofs.checker.Checker.receive.Goals as goal

pub returns-clause-accepted : goal.returns-clause-accepted
returns-clause-accepted g c =
    result_accepted c.args.self.now (option_copied c.args.check) c.args.from c.args.bytes.now
    c.receive_datagram.result c.receive_datagram.ensures.received

pub returns-clause-valid : goal.returns-clause-valid
returns-clause-valid g c =
    result_valid c.args.self.now (option_copied c.args.check) c.args.from c.args.bytes.now
    c.receive_datagram.result c.receive_datagram.ensures.received
