-- An event comes to the same, whatever came before.
use Rattle.stun_endpoint.specs.Outcomes.{outcome_of}
use Rattle.stun_datagrams.proofs.ListLemmas.{is_dropped, is_outcome}
use Rattle.stun_datagrams.proofs.laws.a_datagram_is_one_of_a_list.Goals as goal

pub returns-clause-listed : goal.returns-clause-listed
returns-clause-listed g c =
    is_outcome c.args.server.now c.args.users.now.registered c.args.from c.args.now c.args.bytes.now
    outcome_of c.receive.result c.receive.ensures.received

pub returns-clause-other_realm : goal.returns-clause-other_realm
returns-clause-other_realm g c =
    is_dropped c.args.server.now c.args.users.now.registered c.args.from c.args.now c.args.bytes.now
    outcome_of c.receive.result c.receive.ensures.received
