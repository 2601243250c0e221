-- A refusal has another number.
use Rattle.std.proofs.Common.{refl}
use Rattle.std.specs.Prelude.{nat_lt}
use Rattle.stun_c_endpoint.proofs.ClientLawLemmas.{body_allowed, cancelled_is, ended_is}
use Rattle.stun_c_endpoint.proofs.ClientLawLemmas.{outstanding_is, started_if}
use Rattle.stun_c_endpoint.proofs.client.laws.requests_are_those_of_the_library.Goals as goal

pub returns-clause-started : goal.returns-clause-started
returns-clause-started c = λ c method bytes given now id named before after call.
    started_if c method bytes given now id named before after (nat_lt 4095 method) refl call

pub returns-clause-body : goal.returns-clause-body
returns-clause-body c = λ bytes body reads. body_allowed bytes body reads

pub returns-clause-cancelled : goal.returns-clause-cancelled
returns-clause-cancelled c = λ c number n before after call.
    cancelled_is c number n before after call

pub returns-clause-outstanding : goal.returns-clause-outstanding
returns-clause-outstanding c = λ c number d now call. outstanding_is c number d now call

pub returns-clause-ended : goal.returns-clause-ended
returns-clause-ended c = λ c number d now call. ended_is c number d now call
