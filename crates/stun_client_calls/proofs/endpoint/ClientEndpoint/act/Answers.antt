-- Each decision is acted upon by a function of its own.
use Rattle.std.proofs.Common.{ap}
use Rattle.stun_client_calls.specs.Deciding.{answered, decision_of, turns, challenged_out}
use Rattle.stun_client_calls.specs.Receiving.{all_memory}
use Rattle.stun_client_calls.proofs.GrantedLemmas.{decided_so_as, dropped_as, refused_as}
use Rattle.stun_client_calls.proofs.ReceivingLemmas.{decided_as, dropped_so, refused_so}
use Rattle.stun_client_calls.proofs.endpoint.ClientEndpoint.act.Goals as goal

pub returns-in-Answered-clause-acted : goal.returns-in-Answered-clause-acted
returns-in-Answered-clause-acted g c =
    λ m found same current.
    decided_as c.args.message.now c.args.self.now c.args.now m (decision_of c.args.decision)
    (answered c.in-Answered.by) _ (ap decision_of c.in-Answered.is)
    (c.end_answered.ensures.acted m found same current)

pub returns-in-ChallengedOut-clause-acted : goal.returns-in-ChallengedOut-clause-acted
returns-in-ChallengedOut-clause-acted g c =
    λ m found same current.
    decided_as c.args.message.now c.args.self.now c.args.now m (decision_of c.args.decision)
    challenged_out _ (ap decision_of c.in-ChallengedOut.is)
    (c.end_challenged.ensures.acted m found same current)

pub returns-in-Turn-clause-acted : goal.returns-in-Turn-clause-acted
returns-in-Turn-clause-acted g c =
    λ m found same current.
    decided_as c.args.message.now c.args.self.now c.args.now m (decision_of c.args.decision)
    (turns c.in-Turn.why c.in-Turn.place c.in-Turn.signed_for) _ (ap decision_of c.in-Turn.is)
    (c.turn.ensures.acted m found same)

pub returns-in-Refuse-clause-acted : goal.returns-in-Refuse-clause-acted
returns-in-Refuse-clause-acted g c =
    λ m found same current.
    refused_so c.args.message.now c.args.self.now c.args.now m (decision_of c.args.decision)
    c.args.number _ (ap decision_of c.in-Refuse.is) same c.refuse.ensures

pub returns-in-Drop-clause-acted : goal.returns-in-Drop-clause-acted
returns-in-Drop-clause-acted g c =
    λ m found same current.
    dropped_so c.args.message.now c.args.self.now c.args.now m (decision_of c.args.decision)
    c.args.number c.in-Drop.why _ (ap decision_of c.in-Drop.is) same c.drop_for.ensures

pub returns-in-Answered-clause-granted : goal.returns-in-Answered-clause-granted
returns-in-Answered-clause-granted g c =
    λ grants m found same current.
    decided_so_as all_memory c.args.message.now c.args.self.now c.args.now m
    (decision_of c.args.decision) (answered c.in-Answered.by) _ (ap decision_of c.in-Answered.is)
    (c.end_answered.ensures.granted grants m found same current)

pub returns-in-ChallengedOut-clause-granted : goal.returns-in-ChallengedOut-clause-granted
returns-in-ChallengedOut-clause-granted g c =
    λ grants m found same current.
    decided_so_as all_memory c.args.message.now c.args.self.now c.args.now m
    (decision_of c.args.decision) challenged_out _ (ap decision_of c.in-ChallengedOut.is)
    (c.end_challenged.ensures.granted grants m found same current)

pub returns-in-Turn-clause-granted : goal.returns-in-Turn-clause-granted
returns-in-Turn-clause-granted g c =
    λ grants m found same current.
    decided_so_as all_memory c.args.message.now c.args.self.now c.args.now m
    (decision_of c.args.decision) (turns c.in-Turn.why c.in-Turn.place c.in-Turn.signed_for) _ (ap decision_of c.in-Turn.is)
    (c.turn.ensures.granted grants m found same)

pub returns-in-Refuse-clause-granted : goal.returns-in-Refuse-clause-granted
returns-in-Refuse-clause-granted g c =
    λ grants m found same current.
    refused_as all_memory c.args.message.now c.args.self.now c.args.now m
    (decision_of c.args.decision) c.args.number _ (ap decision_of c.in-Refuse.is) same
    c.refuse.ensures

pub returns-in-Drop-clause-granted : goal.returns-in-Drop-clause-granted
returns-in-Drop-clause-granted g c =
    λ grants m found same current.
    dropped_as all_memory c.args.message.now c.args.self.now c.args.now m
    (decision_of c.args.decision) c.args.number c.in-Drop.why _ (ap decision_of c.in-Drop.is) same
    c.drop_for.ensures
