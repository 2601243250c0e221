-- What is looked for is not found, and each other kind says so.
use Rattle.stun_c_endpoint.proofs.HandleLawLemmas.{no_table, not_added, not_found, not_removed}
use Rattle.stun_c_endpoint.proofs.HandleLawLemmas.{not_stored, takes_agent, takes_client}
use Rattle.stun_c_endpoint.proofs.HandleLawLemmas.{takes_server}
use Rattle.stun_c_endpoint.proofs.handle.laws.other_handles_are_refused.Goals as goal

pub returns-clause-agent : goal.returns-clause-agent
returns-clause-agent c = λ handle. takes_agent handle

pub returns-clause-client : goal.returns-clause-client
returns-clause-client c = λ handle. takes_client handle

pub returns-clause-server : goal.returns-clause-server
returns-clause-server c = λ handle. takes_server handle

pub returns-clause-added : goal.returns-clause-added
returns-clause-added c = λ name password k other short. not_added name password k other short

pub returns-clause-removed : goal.returns-clause-removed
returns-clause-removed c = λ name k other short. not_removed name k other short

pub returns-clause-stored : goal.returns-clause-stored
returns-clause-stored c = λ name sha1 sha256 k other. not_stored name sha1 sha256 k other

pub returns-clause-table : goal.returns-clause-table
returns-clause-table c = λ k other short. no_table k other short

pub returns-clause-found : goal.returns-clause-found
returns-clause-found c = λ name password sha1 sha256 has k other.
    not_found name password sha1 sha256 has k other
