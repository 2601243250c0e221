-- Each result has its number and its fields.
use Rattle.std.specs.Prelude.{nat_lt}
use Rattle.stun_handles.specs.Addresses.{socket_address}
use Rattle.stun_c_endpoint.specs.Told.{LAST_SECOND, outcome_at}
use Rattle.stun_c_endpoint.proofs.ServerLawLemmas.{cause_by, judged, kind_is, needed}
use Rattle.stun_c_endpoint.proofs.server.laws.datagrams_are_judged_as_by_the_library.Goals as goal

pub returns-clause-judged : goal.returns-clause-judged
returns-clause-judged c = λ judge from seconds bytes n out after x told call.
    judged judge from seconds bytes n out after x told call

pub returns-clause-kind : goal.returns-clause-kind
returns-clause-kind c = λ judge from seconds bytes n out after x told call.
    kind_is (outcome_at judge from seconds bytes x) n out after x told call

pub returns-clause-needed : goal.returns-clause-needed
returns-clause-needed c = λ judge from seconds bytes out after x told call.
    needed judge from seconds bytes out after x told call

pub returns-clause-cause : goal.returns-clause-cause
returns-clause-cause c = λ realm from seconds bytes n call.
    cause_by realm seconds bytes n (nat_lt LAST_SECOND seconds) (socket_address from) call
