-- What is changed is changed only if there is no error.
use Rattle.std.proofs.Common.{◌==◌}
use Rattle.stun_c_endpoint.specs.Events.{EVENT_SIZE}
use Rattle.stun_c_endpoint.proofs.ClientLawLemmas.{cancel_left, datagram_left, lost_if, poll_failed}
use Rattle.stun_c_endpoint.proofs.ClientLawLemmas.{poll_left, request_left}
use Rattle.stun_c_endpoint.proofs.client.laws.errors_leave_the_client.Goals as goal

pub returns-clause-request : goal.returns-clause-request
returns-clause-request c = λ c method bytes given now result id named before after call e.
    request_left c method bytes given now result id named before after call e

pub returns-clause-datagram : goal.returns-clause-datagram
returns-clause-datagram c = λ c from bytes now result why told before after call e.
    datagram_left c from bytes now result why told before after call e

pub returns-clause-cancelled : goal.returns-clause-cancelled
returns-clause-cancelled c = λ c number result before after call e.
    cancel_left c number result before after call e

pub returns-clause-poll : goal.returns-clause-poll
returns-clause-poll c = λ c now result out written v event before after call e other.
    poll_left c now result out written v event before after call e other

pub returns-clause-event : goal.returns-clause-event
returns-clause-event c = λ c now result out written v event before after call e.
    poll_failed c now result out written v event before after call e

pub returns-clause-lost : goal.returns-clause-lost
returns-clause-lost c = λ c now out written v event before after call.
    lost_if (v.size == EVENT_SIZE) c now out written v event before after call
