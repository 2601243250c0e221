-- What is hidden twice is as it was.
use Rattle.std.specs.Net.Socket.{socket_ip, socket_port}
use Rattle.stun_types.specs.code.AttributeLaws.{HasOctets}
use Rattle.stun_types.specs.XorMappedAddress.{IsHidden, xored_address}
use Rattle.stun_types.proofs.XorLemmas.{hidden_ip}
use Rattle.stun_types.proofs.attribute.laws.hidden_and_read.Goals as goal

pub returns-clause-ip : goal.returns-clause-ip
returns-clause-ip c =
    let hidden : IsHidden c.args.id
    (xored_address (socket_ip c.args.addr) (socket_port c.args.addr) c.args.id)
    (socket_ip c.addr.result) =
    rw (← c.new.ensures) c.addr.ensures.ip in
    let octets : HasOctets (socket_ip c.args.addr) =
    rw (← c.ip.ensures) c.count_octets-octets.ensures in
    hidden_ip (socket_ip c.args.addr) (socket_ip c.addr.result) (socket_port c.args.addr) c.args.id
    octets hidden
