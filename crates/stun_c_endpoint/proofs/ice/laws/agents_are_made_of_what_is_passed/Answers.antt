-- No refusal is 0.
use Rattle.stun_c_endpoint.proofs.IceLawLemmas.{agent_made, memory_alone, offering_made, peer_set}
use Rattle.stun_c_endpoint.proofs.IceLawLemmas.{tie_set, two_steps}
use Rattle.stun_c_endpoint.proofs.ice.laws.agents_are_made_of_what_is_passed.Goals as goal

pub returns-clause-made : goal.returns-clause-made
returns-clause-made c = λ g now call. agent_made g now call

pub returns-clause-offering : goal.returns-clause-offering
returns-clause-offering c = λ s tie controls now call. offering_made s tie controls now call

pub returns-clause-peer : goal.returns-clause-peer
returns-clause-peer c = λ a s before now call. peer_set a s before now call

pub returns-clause-tie_breaker : goal.returns-clause-tie_breaker
returns-clause-tie_breaker c = λ a tie result before now call. tie_set a tie result before now call

pub returns-clause-two_steps : goal.returns-clause-two_steps
returns-clause-two_steps c = λ g offered now once offers sets makes.
    two_steps g offered now once offers sets makes

pub returns-clause-memory : goal.returns-clause-memory
returns-clause-memory c = λ error h. memory_alone error h
