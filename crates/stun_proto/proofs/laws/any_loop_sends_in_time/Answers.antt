-- Call by call: what each leaves of the request, and when it is due next.
use Rattle.stun_proto.proofs.agent_runs.AnyCalls.{calls_exist, calls_send_in_time}
use Rattle.stun_proto.proofs.laws.any_loop_sends_in_time.Goals as goal

pub returns-clause-in_time : goal.returns-clause-in_time
returns-clause-in_time c = calls_send_in_time

pub returns-clause-exist : goal.returns-clause-exist
returns-clause-exist c = calls_exist
