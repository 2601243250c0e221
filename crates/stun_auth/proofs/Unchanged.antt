-- A place that is put back as it was.
use Rattle.std.proofs.Common.{◌≡◌, ℕ, List, Option, Some, None}
use Rattle.std.proofs.Common.{Bool, true, false, refl, sym, ◌∙◌, ap}
use Rattle.std.specs.Prelude.{cond, not, ◌&&◌}
use Rattle.std.specs.Ordering.{is_eq}
use Rattle.std.specs.declared.cmp.Ordering.{Ordering}
use Rattle.std.specs.declared.cmp.Ordering.TheVariants.{Less, Equal, Greater}
use Rattle.std.specs.FinMap as fin
use Rattle.std.specs.FinMap.{same_map, get-insert, get_tied}
use Rattle.std.specs.declared.net.socket_addr.SocketAddr.{SocketAddr}
use Rattle.stun_base.specs.Address.{address_cmp}
use Rattle.stun_judging.specs.Verdict.{ClientSeen}
use Rattle.stun_auth.specs.Seen.{PlaceSeen, renewed_place}
use Rattle.stun_auth.specs.Places.{at_place}
use Rattle.stun_judging.specs.Reading.{Reading}
use Rattle.stun_auth.specs.Reasons.{ServerUnlessMemory, ServerRefusal}
use Rattle.stun_base.specs.Moments.{moment_after}
use Rattle.stun_auth.specs.Server.{Sight, current_place, current_place_of, has_current_nonce}
use Rattle.stun_auth.specs.Validation.{ChangesNothing, ServerSeen, sight, with_accepted}
use Rattle.stun_auth.specs.Validation.{put_place, needs_nonce, after_validation, verdict_at}
use Rattle.stun_auth.specs.declared.server.reason.LongTermServerAuthErrorReason.{
  LongTermServerAuthErrorReason,
}
use Rattle.stun_auth.specs.declared.server.reason.LongTermServerAuthErrorReason.TheVariants.{
  Unauthorized,
  IntegrityFailed,
  UnsupportedFeature,
  BadRequest,
  StaleNonce,
  OutOfMemory,
}
use Rattle.stun_judging.specs.Nonces.{nonce_of}
use Rattle.std.specs.declared.result.Result.{Result}
use Rattle.std.specs.declared.result.Result.TheVariants.{Ok, Err}
use Rattle.stun_base.proofs.Addresses.{address_total, address_exact}

pub equal_or : (o : Ordering) (x : Option PlaceSeen) (y : Option PlaceSeen) → (o ≡ Equal → x ≡ y)
    → cond (is_eq o) x y ≡ y
equal_or Less x y h = refl
equal_or Equal x y h = h refl
equal_or Greater x y h = refl

pub insert-same : (places : fin.FinMap address_cmp PlaceSeen) (a : SocketAddr) (p : PlaceSeen)
    → fin.get places a ≡ Some p → fin.insert places a p ≡ places
insert-same places a p is =
    same_map address_total address_exact (fin.insert places a p) places (λ q.
    get-insert address_total places a p q
    ∙ equal_or (address_cmp q a) (Some p) (fin.get places q)
    (λ tied. sym is ∙ get_tied address_total places q a tied))

pub at_place-same : (places : fin.FinMap address_cmp PlaceSeen) (a : SocketAddr)
    (change : PlaceSeen → PlaceSeen) → ((p : PlaceSeen) → change p ≡ p)
    → at_place (fin.get places a) places a change ≡ places
at_place-same places a change same =
    elim (fin.get places a) as (λ o. fin.get places a ≡ o → at_place o places a change ≡ places) [
      | None ↦ λ e. refl
      | Some p ↦ λ e. ap (fin.insert places a) (same p) ∙ insert-same places a p e
    ] refl

-- what holds while no allocation fails, holds or an allocation fails
pub or_memory : {V P Q : Type 0} (r : Result V LongTermServerAuthErrorReason) → P → Q
    → ServerUnlessMemory r P Q
or_memory (Ok v) p q = p
or_memory (Err Unauthorized) p q = p
or_memory (Err IntegrityFailed) p q = p
or_memory (Err UnsupportedFeature) p q = p
or_memory (Err BadRequest) p q = p
or_memory (Err StaleNonce) p q = p
or_memory (Err OutOfMemory) p q = q

pub or_memory_map : {V P P' : Type 0} (Q : Type 0) (r : Result V LongTermServerAuthErrorReason)
    → (P → P') → ServerUnlessMemory r P Q → ServerUnlessMemory r P' Q
or_memory_map Q (Ok v) f h = f h
or_memory_map Q (Err Unauthorized) f h = f h
or_memory_map Q (Err IntegrityFailed) f h = f h
or_memory_map Q (Err UnsupportedFeature) f h = f h
or_memory_map Q (Err BadRequest) f h = f h
or_memory_map Q (Err StaleNonce) f h = f h
or_memory_map Q (Err OutOfMemory) f h = h

pub put_place-same : (places : fin.FinMap address_cmp PlaceSeen) (a : SocketAddr)
    → put_place places a (fin.get places a) ≡ places
put_place-same places a =
    elim (fin.get places a) as (λ o. fin.get places a ≡ o → put_place places a o ≡ places)
    [ None ↦ λ e. refl | Some p ↦ λ e. insert-same places a p e ] refl

-- a message that needs no nonce leaves the server as it was
pub after_needless : (s : ServerSeen) (from : SocketAddr) (now : ℕ) (words : List ℕ) (r : Reading)
    → needs_nonce r ≡ false → s ≡ after_validation s from now words r
after_needless s from now words r h =
    let left : PlaceSeen =
    with_accepted (current_place (sight s from) now words)
    (verdict_at (sight s from) (current_place (sight s from) now words) r) in
    ap (λ m. record s { places = m }) (sym (put_place-same s.places from))
    ∙ ap (λ b.
    record s { places = put_place s.places from (cond b (Some left) (fin.get s.places from)) })
    (sym h)

-- ---- messages that change nothing

needed-false : (needed : Bool) → (needed && false) ≡ false
needed-false true = refl
needed-false false = refl

if-same : (b : Bool) (x y : Option PlaceSeen) → x ≡ y → cond b x y ≡ y
if-same true x y is = is
if-same false x y is = refl

pub needless-unchanged : (s : Sight) (now : ℕ) (words : List ℕ) (r : Reading)
    → needs_nonce r ≡ false → ChangesNothing s now words r
needless-unchanged s now words r needless = record {
  no_nonce = ap (λ b. b && not (has_current_nonce now s.place)) needless;
  same_place =
      ap (λ b.
      cond b (Some (with_accepted (current_place s now words)
      (verdict_at s (current_place s now words) r)))
      s.place) needless;
}

-- where a nonce is current, a verdict that leaves its place
pub kept-unchanged : (s : Sight) (now : ℕ) (words : List ℕ) (r : Reading) (place : PlaceSeen)
    → s.place ≡ Some place → has_current_nonce now (Some place) ≡ true
    → with_accepted place (verdict_at s place r) ≡ place → ChangesNothing s now words r
kept-unchanged s now words r place there stands same =
    let stays : current_place s now words ≡ place =
    ap (λ o. current_place_of o (nonce_of s.registered.algorithms s.feature words) now
    (moment_after now s.expiry)) there
    ∙ ap (λ b.
    cond b place
    (renewed_place (Some place) (nonce_of s.registered.algorithms s.feature words)
    (moment_after now s.expiry))) stands in record {
      no_nonce = ap (λ o. needs_nonce r && not (has_current_nonce now o)) there
          ∙ ap (λ b. needs_nonce r && not b) stands ∙ needed-false (needs_nonce r);
      same_place =
          if-same (needs_nonce r)
          (Some (with_accepted (current_place s now words)
          (verdict_at s (current_place s now words) r)))
          s.place
          (ap (λ p. Some (with_accepted p (verdict_at s p r))) stays ∙ ap Some same ∙ sym there);
    }

pub refused-unchanged : (s : Sight) (now : ℕ) (words : List ℕ) (r : Reading) (place : PlaceSeen)
    (e : ServerRefusal) → s.place ≡ Some place → has_current_nonce now (Some place) ≡ true
    → verdict_at s place r ≡ Err e → ChangesNothing s now words r
refused-unchanged s now words r place e there stands refused =
    kept-unchanged s now words r place there stands (ap (with_accepted place) refused)

pub repeated-unchanged : (s : Sight) (now : ℕ) (words : List ℕ) (r : Reading) (place : PlaceSeen)
    (client : ClientSeen) → s.place ≡ Some place → has_current_nonce now (Some place) ≡ true
    → verdict_at s place r ≡ Ok client → place.client ≡ Some client → ChangesNothing s now words r
repeated-unchanged s now words r place client there stands accepted known =
    kept-unchanged s now words r place there stands
    (ap (with_accepted place) accepted ∙ ap (λ c. record place { client = c }) (sym known))
