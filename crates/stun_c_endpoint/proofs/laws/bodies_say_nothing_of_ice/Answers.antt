-- No attribute is nothing more, and an attribute of the agent is the first refusal.
use Rattle.stun_c_endpoint.proofs.AddingLemmas.{nothing_more, own_refused}
use Rattle.stun_c_endpoint.proofs.laws.bodies_say_nothing_of_ice.Goals as goal

pub returns-clause-nothing : goal.returns-clause-nothing
returns-clause-nothing c = λ a peer id to priority nominate check extends.
    nothing_more a peer id to priority nominate check extends

pub returns-clause-refused : goal.returns-clause-refused
returns-clause-refused c = λ page bytes result whole own adds.
    own_refused page bytes result whole own adds
