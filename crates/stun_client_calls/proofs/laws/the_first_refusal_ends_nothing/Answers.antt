-- A refusal is dropped unless one counts already.
use Rattle.std.proofs.Common.{refl}
use Rattle.stun_client_calls.specs.Messages.{refusing, sent_out, turned}
use Rattle.stun_client_calls.proofs.DecidingLemmas.{first_refusal, repeated_refusal}
use Rattle.stun_client_calls.proofs.laws.the_first_refusal_ends_nothing.Goals as goal

pub returns-clause-first : goal.returns-clause-first
returns-clause-first c = first_refusal

pub returns-clause-repeated : goal.returns-clause-repeated
returns-clause-repeated c = repeated_refusal

pub returns-clause-turned : goal.returns-clause-turned
returns-clause-turned c = λ limits standing now a is_kept former t unreliable.
    first_refusal limits standing now (turned is_kept former t a) unreliable refl

pub returns-clause-unsent : goal.returns-clause-unsent
returns-clause-unsent c = λ limits standing now later a is_kept former t code unreliable.
    first_refusal limits standing now (sent_out later (refusing code (turned is_kept former t a)))
    unreliable refl
