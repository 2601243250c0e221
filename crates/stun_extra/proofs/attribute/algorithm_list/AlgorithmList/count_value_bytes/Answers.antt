-- After the last entry the sum is whole.
use Rattle.std.proofs.Common.{length, ap, ◌-◌, ◌^◌}
use Rattle.stun_types.specs.Grammar.{spelled_attributes}
use Rattle.stun_extra.proofs.AlgorithmListLemmas.{whole_sum}
use Rattle.stun_extra.proofs.attribute.algorithm_list.AlgorithmList.count_value_bytes.Goals as goal

pub returns-clause-length : goal.returns-clause-length
returns-clause-length c =
    let all = c.args.self.now in
    whole_sum c.loop-entry.total (length (spelled_attributes c.loop-entry.entry-iterator))
    (length (spelled_attributes all)) (2 ^ 64 - 1)
    (ap (λ es. length (spelled_attributes es)) c.in-None.ensures.steps.0)
    c.loop-entry.invariant.small c.loop-entry.invariant.total
