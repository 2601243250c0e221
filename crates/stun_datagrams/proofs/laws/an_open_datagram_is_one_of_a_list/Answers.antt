-- Each datagram of a list comes to what it comes to alone.
use Rattle.stun_endpoint.specs.Open.{received_openly}
use Rattle.stun_endpoint.specs.Outcomes.{outcome_of}
use Rattle.stun_datagrams.specs.Others.{OpenDatagram}
use Rattle.stun_datagrams.proofs.ListLemmas.{is_mapped}
use Rattle.stun_datagrams.proofs.laws.an_open_datagram_is_one_of_a_list.Goals as goal

pub returns : goal.returns
returns g c =
    is_mapped (λ (d : OpenDatagram). received_openly c.args.server.now d.from d.bytes)
    (record { from = c.args.from; bytes = c.args.bytes.now }) outcome_of c.receive.result
    c.receive.ensures.received
