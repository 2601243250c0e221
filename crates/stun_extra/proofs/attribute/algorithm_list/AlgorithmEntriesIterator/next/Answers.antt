-- The entry at the offset is the first that is left, and those after it stay.
use Rattle.std.proofs.Common.{◌≡◌, ◌+◌, ◌∷◌, length, ap, sym, subst, ◌∙◌, arith}
use Rattle.std.proofs.lemmas.Grind.{common_steps}
use Rattle.stun_types.specs.Attribute.{TypedValue, attribute_length}
use Rattle.stun_extra.specs.code.AlgorithmSource.{source_entries, IsFilled}
use Rattle.stun_extra.proofs.AlgorithmListLemmas.{no_entries, passed}
use Rattle.stun_extra.proofs.attribute.algorithm_list.AlgorithmEntriesIterator.next.Goals as goal

pub overflow_add-self : goal.overflow_add-self
overflow_add-self c =
    let p =
    passed c.in-Received.place c.padded_len.result c.in-Received.bytes.now
    c.in-Some.first c.in-Some.ensures.whole c.in-Some.ensures.value
    (c.padded_len.ensures
    ∙ ap (λ (e : TypedValue). attribute_length (length e.value)) c.to_raw.ensures.same) in
    omega (arith, p.within, c.read_entry.ensures.sized)

pub invariant_of-self-in-Received : goal.invariant_of-self-in-Received
invariant_of-self-in-Received c =
    let p =
    passed c.in-Received.place c.padded_len.result c.in-Received.bytes.now
    c.in-Some.first c.in-Some.ensures.whole c.in-Some.ensures.value
    (c.padded_len.ensures
    ∙ ap (λ (e : TypedValue). attribute_length (length e.value)) c.to_raw.ensures.same) in
    sym p.filled ∙ subst IsFilled c.in-Received.is c.self.invariant

pub returns-in-Some-clause-steps : goal.returns-in-Some-clause-steps
returns-in-Some-clause-steps c =
    let p =
    passed c.in-Received.place c.padded_len.result c.in-Received.bytes.now
    c.in-Some.first c.in-Some.ensures.whole c.in-Some.ensures.value
    (c.padded_len.ensures
    ∙ ap (λ (e : TypedValue). attribute_length (length e.value)) c.to_raw.ensures.same) in
    sym c.self.view_is ∙ (ap source_entries c.in-Received.is ∙ p.entries_are)

pub returns-in-Some-clause-goes : goal.returns-in-Some-clause-goes
returns-in-Some-clause-goes c =
    let first = returns-in-Some-clause-steps c in
    grind (arith, common_steps, first)

pub returns-in_default-clause-steps : goal.returns-in_default-clause-steps
returns-in_default-clause-steps c =
    let none =
    sym c.self.view_is
    ∙ (ap source_entries c.in-Received.is
    ∙ no_entries c.in-Received.place c.in-Received.bytes.now c.in_default.ensures.none) in
    (none, none)
