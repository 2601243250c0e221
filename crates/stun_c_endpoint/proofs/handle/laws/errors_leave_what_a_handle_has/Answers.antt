-- What is changed is changed only if there is no error.
use Rattle.stun_c_endpoint.proofs.HandleLawLemmas.{added_left, datagram_left, peer_left, role_left}
use Rattle.stun_c_endpoint.proofs.HandleLawLemmas.{table_left, tie_left}
use Rattle.stun_c_endpoint.proofs.handle.laws.errors_leave_what_a_handle_has.Goals as goal

pub returns-clause-peer : goal.returns-clause-peer
returns-clause-peer c = λ a s result before now call e. peer_left a s result before now call e

pub returns-clause-tie_breaker : goal.returns-clause-tie_breaker
returns-clause-tie_breaker c = λ a tie result before now call e.
    tie_left a tie result before now call e

pub returns-clause-role : goal.returns-clause-role
returns-clause-role c = λ a controls result before now call e.
    role_left a controls result before now call e

pub returns-clause-datagram : goal.returns-clause-datagram
returns-clause-datagram c = λ seen result out after r told before now call e.
    datagram_left seen result out after r told before now call e

pub returns-clause-table : goal.returns-clause-table
returns-clause-table c = λ left result before now call e. table_left left result before now call e

pub returns-clause-added : goal.returns-clause-added
returns-clause-added c = λ left result before now call e. added_left left result before now call e
