-- A refusal writes nothing but the room that is needed.
use Rattle.stun_c_endpoint.specs.Lookups.{identified_at}
use Rattle.stun_c_endpoint.specs.Told.{failed, outcome_at}
use Rattle.stun_c_endpoint.proofs.ServerLawLemmas.{failed_is, lookup_failed}
use Rattle.stun_c_endpoint.proofs.server.laws.errors_write_nothing.Goals as goal

pub returns-clause-received : goal.returns-clause-received
returns-clause-received c = λ judge from seconds bytes result out after x told call e.
    failed_is (outcome_at judge from seconds bytes (failed x)) result out after x told call e

pub returns-clause-identified : goal.returns-clause-identified
returns-clause-identified c = λ s from seconds bytes result out after x told call e.
    lookup_failed (identified_at s from seconds bytes (failed x)) result out after x told call e
