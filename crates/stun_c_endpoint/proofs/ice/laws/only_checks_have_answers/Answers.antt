-- What has no answer leaves the buffer.
use Rattle.stun_c_endpoint.proofs.IceLawLemmas.{failed_is, kind_is, reasons_apart, seen_needed}
use Rattle.stun_c_endpoint.proofs.IceLawLemmas.{unanswered}
use Rattle.stun_c_endpoint.proofs.ice.laws.only_checks_have_answers.Goals as goal

pub returns-clause-unanswered : goal.returns-clause-unanswered
returns-clause-unanswered c = λ seen result out after r told before now call other.
    unanswered seen result out after r told before now call other

pub returns-clause-needed : goal.returns-clause-needed
returns-clause-needed c = λ s out after r told before now call.
    seen_needed s out after r told before now call

pub returns-clause-kind : goal.returns-clause-kind
returns-clause-kind c = λ seen n out after r told before now call.
    kind_is seen n out after r told before now call

pub returns-clause-failed : goal.returns-clause-failed
returns-clause-failed c = λ seen result out after r told before now call e.
    failed_is seen result out after r told before now call e

pub returns-clause-why : goal.returns-clause-why
returns-clause-why c = λ one other is. reasons_apart one other is
