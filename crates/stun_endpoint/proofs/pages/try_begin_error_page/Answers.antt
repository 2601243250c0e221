-- ERROR-CODE is the only attribute.
use Rattle.std.proofs.Common.{◌≡◌, ◌≤◌, length, ap, arith, refl, rules}
use Rattle.stun_types.specs.Limits.{TEXT_LIMIT}
use Rattle.stun_endpoint.specs.code.Room.{LATER}
use Rattle.stun_endpoint.proofs.RoomLemmas.{none_empty, still}
use Rattle.stun_endpoint.proofs.pages.try_begin_error_page.Goals as goal

pub returns-clause-room : goal.returns-clause-room
returns-clause-room g c =
    let begun : length c.in_ok-page.page.bytes ≡ 20 = ap length c.in_ok-page.ensures.bytes in
    let few : length c.in_ok-error.error.reason ≤ TEXT_LIMIT =
    first_of (search rules, grind arith) in
    record {
      is_open = c.in_ok-add_attribute.ensures.open c.in_ok-page.ensures.open;
      none = still c.in_ok-page.page.bytes c.add_attribute.new.self.bytes _ LATER
          (c.in_ok-add_attribute.ensures.added c.in_ok-page.ensures.open)
          (none_empty c.in_ok-page.page.bytes LATER c.in_ok-page.ensures.empty)
          (refl, (refl, (refl, (refl, tt))));
      short = omega (arith, begun, few, c.in_ok-add_attribute.ensures.room);
    }
