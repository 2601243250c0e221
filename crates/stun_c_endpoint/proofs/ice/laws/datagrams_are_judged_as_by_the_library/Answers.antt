-- Each result has its number and its fields.
use Rattle.stun_c_endpoint.proofs.IceLawLemmas.{seen_accepted, seen_told, seen_valid}
use Rattle.stun_c_endpoint.proofs.ice.laws.datagrams_are_judged_as_by_the_library.Goals as goal

pub returns-clause-told : goal.returns-clause-told
returns-clause-told c = λ a has k from bytes n out after r told before now call.
    seen_told a has k from bytes n out after r told before now call

pub returns-clause-accepted : goal.returns-clause-accepted
returns-clause-accepted c = λ a has k from bytes n out after r told before now call.
    seen_accepted a has k from bytes n out after r told before now call

pub returns-clause-valid : goal.returns-clause-valid
returns-clause-valid c = λ a has k from bytes n out after r told before now call.
    seen_valid a has k from bytes n out after r told before now call
