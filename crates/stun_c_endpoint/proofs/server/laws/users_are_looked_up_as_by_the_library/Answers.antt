-- No other result has the number of a look-up.
use Rattle.std.specs.Prelude.{◌==◌, ◌||◌, nat_lt, not}
use Rattle.stun_handles.specs.Addresses.{socket_address}
use Rattle.stun_c_endpoint.specs.Told.{LAST_SECOND, RECEIVED_SIZE}
use Rattle.stun_c_endpoint.proofs.ServerLawLemmas.{looked_up_by}
use Rattle.stun_c_endpoint.proofs.server.laws.users_are_looked_up_as_by_the_library.Goals as goal

pub returns : goal.returns
returns c = λ s from seconds bytes out after x told call.
    looked_up_by s seconds bytes out after x told (not (x.size == RECEIVED_SIZE) || nat_lt LAST_SECOND seconds) (socket_address from) call
