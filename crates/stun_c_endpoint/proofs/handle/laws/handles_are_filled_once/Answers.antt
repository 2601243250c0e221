-- Nothing is made for an error, and no error is 0.
use Rattle.stun_c_endpoint.specs.Given.{alone_refusal, given_refusal, responding_given}
use Rattle.stun_c_endpoint.specs.Given.{server_given}
use Rattle.stun_c_endpoint.specs.declared.handle.endpoint.Kept.TheVariants as kind
use Rattle.stun_c_endpoint.proofs.HandleLawLemmas.{agent_unmade, client_unmade, filled}
use Rattle.stun_c_endpoint.proofs.HandleLawLemmas.{offering_unmade, unmade_by}
use Rattle.stun_c_endpoint.proofs.handle.laws.handles_are_filled_once.Goals as goal

pub returns-clause-filled : goal.returns-clause-filled
returns-clause-filled c = λ before now full. filled before now full

pub returns-clause-agent : goal.returns-clause-agent
returns-clause-agent c = λ g result before now fills e. agent_unmade g result before now fills e

pub returns-clause-offering : goal.returns-clause-offering
returns-clause-offering c = λ s tie controls result before now fills e.
    offering_unmade s tie controls result before now fills e

pub returns-clause-server : goal.returns-clause-server
returns-clause-server c = λ g result before now fills e.
    unmade_by (given_refusal g) (kind.Server (server_given g)) result before now fills e

pub returns-clause-short_term : goal.returns-clause-short_term
returns-clause-short_term c = λ g result before now fills e.
    unmade_by (alone_refusal g) (kind.ShortTerm (responding_given g)) result before now fills e

pub returns-clause-open : goal.returns-clause-open
returns-clause-open c = λ g result before now fills e.
    unmade_by (alone_refusal g) (kind.Open (responding_given g)) result before now fills e

pub returns-clause-client : goal.returns-clause-client
returns-clause-client c = λ g result before now fills e. client_unmade g result before now fills e
