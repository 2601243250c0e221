-- What has been written, whether or not a write failed.
use Rattle.std.proofs.Common.{ℕ, List, length, sym, subst}
use Rattle.std.proofs.Common.{arith, Option, Result, Ok, Err, OnOk, OnErr}
use Rattle.std.proofs.Math.Seq.{take-length}
use Rattle.std.specs.Io.KnownBytes.{Appends}
use Rattle.stun_cli.specs.Output.{AppendsBeginning}
use Rattle.stun_tool.specs.code.Output.{AppendsUnlessFailed}

-- whichever way writing a text ends, a beginning of it is there
pub written_unless_failed : {T E : Type 0} (result : Result T E) (before after : Option (List ℕ))
    (text : List ℕ)
    → OnOk result (Appends before after text) → OnErr result (AppendsBeginning before after text)
    → AppendsUnlessFailed before after text
written_unless_failed (Ok _) before after text whole part =
    (length text, omega arith, subst (Appends before after) (sym (take-length text)) whole)
written_unless_failed (Err _) before after text whole part =
    let below = part.1 in
    (part.0, omega arith, part.2)
