-- The address is looked at where the class is no reason to refuse.
use Rattle.std.proofs.Common.{rules}
use Rattle.stun_base.specs.MessageType.{class_in}
use Rattle.stun_agent.specs.Agent.{address_refusal, class_refusal}
use Rattle.stun_agent.proofs.RefusalLemmas.{none-from_ok, some-from_err, or-from_second}
use Rattle.stun_agent.proofs.agent.StunAgent.read_class_to_send.Goals as goal

pub returns-in_err-check_address-clause-refused : goal.returns-in_err-check_address-clause-refused
returns-in_err-check_address-clause-refused g c =
    let first =
    none-from_ok (class_refusal c.args.bytes.now) (class_in c.args.bytes.now) _
    c.in_ok-class.ensures in
    let second =
    some-from_err (address_refusal c.args.self.now c.args.to) _ _ c.in_err-check_address.ensures in
    let both =
    or-from_second (class_refusal c.args.bytes.now) (address_refusal c.args.self.now c.args.to) _
    first second in
    search (rules, both)
