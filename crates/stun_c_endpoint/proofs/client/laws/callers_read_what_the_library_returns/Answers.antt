-- Each result has its number and its fields.
use Rattle.std.proofs.Common.{◌==◌}
use Rattle.stun_handles.specs.Addresses.{socket_address}
use Rattle.stun_c_endpoint.specs.Events.{EVENT_SIZE}
use Rattle.stun_c_endpoint.proofs.ClientLawLemmas.{heard_at, poll_kind, polled_if, reasons_apart}
use Rattle.stun_c_endpoint.proofs.client.laws.callers_read_what_the_library_returns.Goals as goal

pub returns-clause-datagram : goal.returns-clause-datagram
returns-clause-datagram c = λ c from bytes now n why told before after call.
    heard_at c bytes now n why told before after (socket_address from) call

pub returns-clause-poll : goal.returns-clause-poll
returns-clause-poll c = λ c now n out written v event before after call.
    polled_if c now n out written v event before after (v.size == EVENT_SIZE) call

pub returns-clause-kind : goal.returns-clause-kind
returns-clause-kind c = λ c now n out written v event before after call.
    poll_kind c now n out written v event before after call

pub returns-clause-why : goal.returns-clause-why
returns-clause-why c = λ one other is. reasons_apart one other is
