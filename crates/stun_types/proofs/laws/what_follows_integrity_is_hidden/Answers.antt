-- Messages that agree up to the deciding attribute have the same visible attributes.
use Rattle.stun_types.proofs.AgreeLemmas.{agree-header, agree-verdict, agree-visible}
use Rattle.stun_types.proofs.ContinuedLemmas.{agree-continued}
use Rattle.stun_types.proofs.laws.what_follows_integrity_is_hidden.Goals as goal

pub returns-clause-header : goal.returns-clause-header
returns-clause-header c = agree-header

pub returns-clause-visible : goal.returns-clause-visible
returns-clause-visible c = agree-visible

pub returns-clause-verdict : goal.returns-clause-verdict
returns-clause-verdict c = agree-verdict

pub returns-clause-appended : goal.returns-clause-appended
returns-clause-appended c = agree-continued
