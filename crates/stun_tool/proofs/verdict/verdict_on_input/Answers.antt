-- The verdict on the bytes that were read has a listed line, since it is the defined one.
use Rattle.stun_tool.proofs.VerdictLines.{verdict_listed}
use Rattle.stun_tool.proofs.verdict.verdict_on_input.Goals as goal

pub returns-in-Some-clause-listed : goal.returns-in-Some-clause-listed
returns-in-Some-clause-listed g c =
    verdict_listed _ c.as_slice.result.now c.args.password.now c.verdict_on.ensures
