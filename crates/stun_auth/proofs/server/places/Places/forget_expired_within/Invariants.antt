-- What comes from the first start on, and not from the next one on, was looked at.
use Rattle.std.proofs.Common.{◌≡◌, ◌-◌, true}
use Rattle.std.specs.BTreeMap.Range.{is_from_start}
use Rattle.std.specs.declared.net.socket_addr.SocketAddr.{SocketAddr}
use Rattle.stun_base.specs.Address.{address_cmp}
use Rattle.stun_auth.specs.ForgettingSteps.{next_address_from, places_kept_where, start_of}
use Rattle.stun_auth.proofs.SteppingLemmas.{is_passed}
use Rattle.stun_auth.proofs.server.places.Places.forget_expired_within.Given as goal

abbrev pub invariant-loop-looked : goal.invariant-loop-looked
invariant-loop-looked g l = record {
  left : l.self.seen ≡ places_kept_where (is_passed (start_of l.fn.from) l.start) l.now l.fn.self.seen;
  within : (q : SocketAddr) → is_from_start address_cmp l.start q ≡ true
      → is_from_start address_cmp (start_of l.fn.from) q ≡ true;
  next : next_address_from l.fn.self.seen (start_of l.fn.from) l.most
      ≡ next_address_from l.fn.self.seen l.start (l.most - l._looked);
}
