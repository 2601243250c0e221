-- A refusal has another number.
use Rattle.byteorder.specs.Endian.{big_number}
use Rattle.stun_handles.specs.Addresses.{socket_address}
use Rattle.stun_c_endpoint.proofs.IceLawLemmas.{extended_at, unknown, unwritten, unwritten_body}
use Rattle.stun_c_endpoint.proofs.IceLawLemmas.{written_at}
use Rattle.stun_c_endpoint.proofs.ice.laws.checks_are_those_of_the_library.Goals as goal

pub returns-clause-written : goal.returns-clause-written
returns-clause-written c = λ a id to priority nominate n out after k told short call.
    written_at a (big_number 12 id) priority n nominate out after k told short (socket_address to) call

pub returns-clause-with_body : goal.returns-clause-with_body
returns-clause-with_body c = λ a id to priority nominate body n out after k told short call.
    extended_at a (big_number 12 id) priority n nominate out after k told short body (socket_address to) call

pub returns-clause-unknown_peer : goal.returns-clause-unknown_peer
returns-clause-unknown_peer c = λ a id to priority nominate result out after k told address none is call.
    unknown a id to priority nominate result out after k told address none is call

pub returns-clause-unwritten : goal.returns-clause-unwritten
returns-clause-unwritten c = λ check result out after k told call e.
    unwritten check result out after k told call e

pub returns-clause-unwritten_with_body : goal.returns-clause-unwritten_with_body
returns-clause-unwritten_with_body c = λ a id to priority nominate body result out after k told call e.
    unwritten_body a id to priority nominate body result out after k told call e
