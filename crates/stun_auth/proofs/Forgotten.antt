-- What is kept of the places of all addresses, address by address.
use Rattle.std.proofs.Common.{◌≡◌, ◌≤◌, ℕ, Bool, true, false, List, Option, Some}
use Rattle.std.proofs.Common.{None, refl, sym, ◌∙◌, ap, subst, ◌⊎◌, inl, inr}
use Rattle.std.specs.Prelude.{cond, nat_lt, not, ◌&&◌}
use Rattle.std.specs.Option.{is_none, is_some, option_map, IsSome}
use Rattle.std.specs.Cmp.{eq_by_cmp_equiv}
use Rattle.std.specs.FinMap as fin
use Rattle.std.specs.List.{filter, IsDistinct}
use Rattle.std.specs.Map.{keys_of}
use Rattle.std.specs.Ordering.{eq_by_cmp}
use Rattle.std.specs.List.Sorted.{IsStrictlySortedBy}
use Rattle.std.proofs.Math.Bool.{and-false}
use Rattle.std.proofs.lemmas.Bool.{ltb-false, le-ltb}
use Rattle.std.proofs.lemmas.Map.Entries.{lookup-filter-values, option_filter}
use Rattle.std.proofs.lemmas.Map.Keys.{IsDistinct-from_sorted}
use Rattle.std.specs.declared.net.socket_addr.SocketAddr.{SocketAddr}
use Rattle.stun_base.specs.Address.{address_cmp}
use Rattle.stun_auth.specs.declared.server.places.Place.{Place}
use Rattle.stun_auth.specs.Forgetting.{is_forgotten, place_kept, places_kept}
use Rattle.stun_auth.specs.Places.{PlacesSeen}
use Rattle.stun_auth.specs.code.Places.{place_seen, places_seen}
use Rattle.stun_judging.specs.Verdict.{ClientSeen}
use Rattle.stun_auth.specs.Seen.{PlaceSeen}
use Rattle.stun_base.proofs.Addresses.{address_total, address_exact}
use Rattle.stun_judging.proofs.Maps.{get-seen}
use Rattle.stun_auth.proofs.PlaceMaps.{derived, derived_is}

-- a place that is kept is what is kept of it
pub same_place : (now : ℕ) (o : Option PlaceSeen)
    → cond (is_some (place_kept now o)) o None ≡ place_kept now o
same_place now None = refl
same_place now (Some place) = by (is_forgotten now place)
  where
    by : (b : Bool)
        → cond (is_some (cond b None (Some place))) (Some place) None ≡ cond b None (Some place)
    by true = refl
    by false = refl

-- what is kept at an address rests on its own place alone
pub get-places_kept : (now : ℕ) (places : PlacesSeen) (a : SocketAddr)
    → fin.get (places_kept now places) a ≡ place_kept now (fin.get places a)
get-places_kept now places a =
    fin.get-retain_keys places (λ x. is_some (place_kept now (fin.get places x))) a
    (λ x tied. ap (λ q. is_some (place_kept now (fin.get places q))) (sym (address_exact a x tied)))
    ∙ same_place now (fin.get places a)

-- the look-up in the entries that are not forgotten
filtered : {A : Type 0} (now : ℕ) (o : Option (Place A))
    → option_map place_seen (option_filter (λ p. not (is_forgotten now (place_seen p))) o)
    ≡ place_kept now (option_map place_seen o)
filtered now None = refl
filtered {A = A} now (Some p) = by (is_forgotten now (place_seen p))
  where
    by : (b : Bool)
        → option_map place_seen (cond (not b) (Some p) None) ≡ cond b None (Some (place_seen p))
    by true = refl
    by false = refl

-- the entries that are not forgotten are the places that are kept
pub places_seen-filter : {A : Type 0} (now : ℕ) (es : List (SocketAddr × Place A))
    → IsStrictlySortedBy derived (keys_of es)
    → places_seen (filter (λ e. not (is_forgotten now (place_seen e.1))) es)
    ≡ places_kept now (places_seen es)
places_seen-filter {A = A} now es sorted =
    let distinct : IsDistinct (eq_by_cmp address_cmp) (keys_of es) =
    IsDistinct-from_sorted address_cmp (keys_of es)
    (subst (λ (R : SocketAddr → SocketAddr → _). IsStrictlySortedBy R (keys_of es)) derived_is
    sorted) in
    fin.same_map address_total address_exact _ _ (λ q.
    get-seen address_total address_exact (λ a. a) place_seen
    (filter (λ e. not (is_forgotten now (place_seen e.1))) es) q
    ∙ ap (option_map place_seen)
    (lookup-filter-values (eq_by_cmp_equiv address_total)
    (λ p. not (is_forgotten now (place_seen p))) q es distinct)
    ∙ filtered now _
    ∙ ap (place_kept now) (sym (get-seen address_total address_exact (λ a. a) place_seen es q))
    ∙ sym (get-places_kept now (places_seen es) q))

-- a place with a client is not forgotten, nor one whose nonce ends at the moment or later
kept-client : (now : ℕ) (place : PlaceSeen) → IsSome place.client → is_forgotten now place ≡ false
kept-client now place there = ap (λ b. not b && nat_lt place.expires now) there

kept-current : (now : ℕ) (place : PlaceSeen) → now ≤ place.expires → is_forgotten now place ≡ false
kept-current now place later =
    ap (λ b. is_none place.client && b) (le-ltb place.expires now later)
    ∙ and-false (is_none place.client)

-- such a place stays
pub kept_at : (now : ℕ) (places : PlacesSeen) (a : SocketAddr) (place : PlaceSeen)
    → fin.get places a ≡ Some place → is_forgotten now place ≡ false
    → fin.get (places_kept now places) a ≡ Some place
kept_at now places a place found stays =
    get-places_kept now places a ∙ ap (place_kept now) found
    ∙ ap (λ b. cond b None (Some place)) stays

pub kept_at-client : (now : ℕ) (places : PlacesSeen) (a : SocketAddr) (place : PlaceSeen)
    → fin.get places a ≡ Some place → IsSome place.client
    → fin.get (places_kept now places) a ≡ Some place
kept_at-client now places a place found there =
    kept_at now places a place found (kept-client now place there)

pub kept_at-current : (now : ℕ) (places : PlacesSeen) (a : SocketAddr) (place : PlaceSeen)
    → fin.get places a ≡ Some place → now ≤ place.expires
    → fin.get (places_kept now places) a ≡ Some place
kept_at-current now places a place found later =
    kept_at now places a place found (kept-current now place later)

-- a place that is left has a client, or a nonce whose end is not before the moment
of_kept : (b : Bool) (old place : PlaceSeen) → cond b None (Some old) ≡ Some place
    → (b ≡ false) × (old ≡ place)
of_kept true old place kept = cc
of_kept false old place kept = (refl, cc)

held : (now : ℕ) (place : PlaceSeen) (client : Option ClientSeen) (b : Bool) → place.client ≡ client
    → nat_lt place.expires now ≡ b → (is_none client && b) ≡ false
    → IsSome place.client ⊎ (now ≤ place.expires)
held now place (Some client) b there ended kept = inl (ap is_some there)
held now place None true there ended kept = cc
held now place None false there ended kept = inr (ltb-false place.expires now ended)

left : (now : ℕ) (o : Option PlaceSeen) (place : PlaceSeen) → place_kept now o ≡ Some place
    → IsSome place.client ⊎ (now ≤ place.expires)
left now None place kept = cc
left now (Some old) place kept =
    let of : (is_forgotten now old ≡ false) × (old ≡ place) =
    of_kept (is_forgotten now old) old place kept in
    subst (λ (p : PlaceSeen). IsSome p.client ⊎ (now ≤ p.expires)) of.1
    (held now old old.client (nat_lt old.expires now) refl refl of.0)

pub left_at : (now : ℕ) (places : PlacesSeen) (a : SocketAddr) (place : PlaceSeen)
    → fin.get (places_kept now places) a ≡ Some place → IsSome place.client ⊎ (now ≤ place.expires)
left_at now places a place found =
    left now (fin.get places a) place (sym (get-places_kept now places a) ∙ found)
