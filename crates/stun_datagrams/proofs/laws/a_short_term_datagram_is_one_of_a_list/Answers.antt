-- Each datagram of a list comes to what it comes to alone.
use Rattle.stun_endpoint.specs.ShortTerm.{received_signed}
use Rattle.stun_endpoint.specs.Outcomes.{outcome_of}
use Rattle.stun_datagrams.specs.Others.{ShortTermDatagram}
use Rattle.stun_datagrams.proofs.ListLemmas.{is_mapped}
use Rattle.stun_datagrams.proofs.laws.a_short_term_datagram_is_one_of_a_list.Goals as goal

pub returns : goal.returns
returns g c =
    is_mapped (λ (d : ShortTermDatagram). received_signed c.args.server.now d.users d.from d.bytes)
    (record {
      from = c.args.from;
      bytes = c.args.bytes.now;
      users = c.args.users.now;
    })
    outcome_of c.receive.result c.receive.ensures.received
