-- Who is accepted is accepted under a nonce of the server, which asks for what the server offers.
use Rattle.stun_endpoint.proofs.OwnSettingsLemmas.{offered_if_answered, offered_if_handed}
use Rattle.stun_endpoint.proofs.RealmLemmas.{dropped_for_other}
use Rattle.stun_endpoint.proofs.laws.servers_judge_by_their_own_settings.Goals as goal

pub returns-clause-requests : goal.returns-clause-requests
returns-clause-requests c = λ s users from now bytes request.
    offered_if_handed s users from now bytes request

pub returns-clause-answers : goal.returns-clause-answers
returns-clause-answers c = λ s users from now bytes answer.
    offered_if_answered s users from now bytes answer

pub returns-clause-other_realm : goal.returns-clause-other_realm
returns-clause-other_realm c = dropped_for_other
