-- Lists are equal if and only if their algorithms are.
use Rattle.std.proofs.Common.{map, ap, ◌∙◌}
use Rattle.stun_types.specs.PasswordAlgorithms.{integrity_of}
use Rattle.stun_judging.specs.Algorithms.{same_list}
use Rattle.stun_judging.proofs.VerdictLemmas.{same_list-tested}
use Rattle.stun_judging.proofs.verdict.is_offered_list.Goals as goal

pub returns : goal.returns
returns c =
    same_list-tested c.equals.result c.args.list.now c.list_offered.result.now c.equals.ensures
    ∙ ap (same_list (map integrity_of c.args.list.now)) c.list_offered.ensures
