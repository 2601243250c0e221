-- The address is the only attribute, and is short.
use Rattle.std.proofs.Common.{◌≡◌, ◌∷◌, [], length, ap, arith, refl}
use Rattle.std.specs.Net.Socket.{socket_ip, socket_port}
use Rattle.stun_types.specs.XorMappedAddress.{XoredAddress}
use Rattle.stun_extra.specs.AttributeTypes.{SOFTWARE}
use Rattle.stun_extra.proofs.RoomLemmas.{octets_short}
use Rattle.stun_endpoint.proofs.RoomLemmas.{none_empty, still}
use Rattle.stun_endpoint.proofs.pages.try_begin_mapped_page.Goals as goal

pub returns-clause-room : goal.returns-clause-room
returns-clause-room g c =
    let few = octets_short (socket_ip c.args.from) (socket_port c.args.from)
    c.transaction_id.result in
    let same = ap (λ (a : XoredAddress). length a.octets) c.mapped_address-address.ensures in
    let begun : length c.in_ok-page.page.bytes ≡ 20 = ap length c.in_ok-page.ensures.bytes in
    record {
      is_open = c.in_ok-add_attribute.ensures.open c.in_ok-page.ensures.open;
      none = still c.in_ok-page.page.bytes c.add_attribute.new.self.bytes _ (SOFTWARE ∷ [])
          (c.in_ok-add_attribute.ensures.added c.in_ok-page.ensures.open)
          (none_empty c.in_ok-page.page.bytes (SOFTWARE ∷ []) c.in_ok-page.ensures.empty)
          (refl, tt);
      short = omega (arith, few, same, begun, c.in_ok-add_attribute.ensures.room);
    }
