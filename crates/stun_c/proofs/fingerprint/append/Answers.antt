-- The length field is raised, and FINGERPRINT is after the message.
use Rattle.std.proofs.Common.{◌≡◌, ◌++◌, rules, take, drop}
use Rattle.stun_types.specs.Message.{with_length}
use Rattle.stun_types.specs.Writing.{length_with}
use Rattle.stun_c.specs.code.Ended.{fingerprint_after}
use Rattle.stun_c.proofs.Ending.{ended_written}
use Rattle.stun_c.proofs.fingerprint.append.Goals as goal

pub returns-clause-written : goal.returns-clause-written
returns-clause-written c =
    let message = take c.args.count c.args.buffer.now in
    let raised : c.set_length.new.message ≡ with_length message (length_with message 4) =
    search rules in
    let behind : c.spell_after.new.buffer ≡ fingerprint_after c.set_length.new.message
    ++ drop 8 (drop c.args.count c.args.buffer.now) = search rules in
    ended_written c.args.count c.args.buffer.now c.set_length.new.message c.spell_after.new.buffer
    raised behind
