-- An address is short.
use Rattle.std.proofs.Common.{◌≡◌, length, ap, arith}
use Rattle.std.specs.Net.Socket.{socket_ip, socket_port}
use Rattle.stun_types.specs.XorMappedAddress.{XoredAddress}
use Rattle.stun_extra.proofs.RoomLemmas.{octets_short}
use Rattle.stun_ice.proofs.checker.answering.make_mapped_page.Goals as goal

pub returns-clause-open : goal.returns-clause-open
returns-clause-open g c = c.in_ok-add_attribute.ensures.open c.in_ok-page.ensures.open

pub returns-clause-short : goal.returns-clause-short
returns-clause-short g c =
    let few = octets_short (socket_ip c.args.from) (socket_port c.args.from)
    c.transaction_id.result in
    let same = ap (λ (a : XoredAddress). length a.octets) c.mapped_address-address.ensures in
    let begun : length c.in_ok-page.page.bytes ≡ 20 = ap length c.in_ok-page.ensures.bytes in
    omega (arith, few, same, begun, c.in_ok-add_attribute.ensures.room)
