-- A refusal is a 401 for the realm and the security bits of the challenge before.
use Rattle.stun_exchanges.proofs.RefusalLemmas.{refusal_of, refused_so}
use Rattle.stun_exchanges.proofs.client.refusals_ask_for_the_same_credentials.Goals as goal

pub returns-clause-only : goal.returns-clause-only
returns-clause-only c = λ required who p accepts standing before bytes challenge is.
    refusal_of accepts standing before bytes challenge required who p is

pub returns-clause-each : goal.returns-clause-each
returns-clause-each c = λ before bytes challenge is. refused_so before bytes challenge is
