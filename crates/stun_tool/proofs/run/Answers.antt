-- The usage is written whole, or a write failed.
use Rattle.std.proofs.Common.{subst}
use Rattle.stun_tool.specs.code.Output.{AppendsUnlessFailed}
use Rattle.stun_tool.proofs.Writing.{written_unless_failed}
use Rattle.stun_tool.proofs.run.Goals as goal

pub returns-then-eq-5-clause-usage : goal.returns-then-eq-5-clause-usage
returns-then-eq-5-clause-usage g c = λ _.
    subst (AppendsUnlessFailed _ _) c.as_bytes.ensures.value
    (written_unless_failed _ _ _ _ c.write_text.ensures.ok c.write_text.ensures.err)
