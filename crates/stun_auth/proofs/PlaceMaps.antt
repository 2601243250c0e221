-- What a look-up and a change of the tree map are to the finite map of places.
use Rattle.std.proofs.Common.{◌≡◌, ◌+◌, ℕ, suc, List, [], ◌∷◌, map, length, Bool, true}
use Rattle.std.proofs.Common.{false, Option, Some, None, refl, sym, ◌∙◌, ap, subst, arith}
use Rattle.std.specs.Prelude.{cond}
use Rattle.std.specs.List.{AllByRecursion, IsDistinct}
use Rattle.std.specs.List.Sorted.{IsStrictlySortedBy}
use Rattle.std.specs.Map.{keys_of, lookup, set_value}
use Rattle.std.specs.Option.{is_some, option_map, option_map_or, IsSome}
use Rattle.std.specs.Ordering.{eq_by_cmp, is_eq}
use Rattle.std.proofs.lemmas.Map.Keys.{IsDistinct-from_sorted, IsDistinct-head, IsDistinct-tail}
use Rattle.std.specs.declared.cmp.Ordering.{Ordering}
use Rattle.std.specs.FinMap as fin
use Rattle.std.specs.BTreeMap as tree
use Rattle.std.specs.BTreeMap.{BTreeMap, UpdatesBy, insert_entry}
use Rattle.std.specs.declared.net.socket_addr.SocketAddr.{SocketAddr}
use Rattle.std.specs.declared.net.socket_addr.SocketAddr.TheVariants.{V4, V6}
use Rattle.std.specs.contracts.net.socket_addr.SocketAddrOrd.TheImpl.{cmp-value}
use Rattle.stun_base.specs.Address.{address_cmp}
use Rattle.stun_auth.specs.Seen.{PlaceSeen}
use Rattle.stun_auth.specs.Places.{PlacesSeen, at_place}
use Rattle.stun_auth.specs.code.Places.{PlacesKept, client_seen, last_users_of, place_seen}
use Rattle.stun_auth.specs.code.Places.{places_seen}
use Rattle.stun_auth.specs.declared.server.places.Place.{Place}
use Rattle.stun_base.proofs.Addresses.{address_total, address_exact}
use Rattle.stun_judging.proofs.Maps.{get-seen, lookup-inserted, seen_inserted, seen_removed}

-- the order that `SocketAddr` derives
abbrev pub derived : SocketAddr → SocketAddr → Ordering
derived = cmp-value.it

by_cases : (a b : SocketAddr) → derived a b ≡ address_cmp a b
by_cases (V4 a) (V4 b) = refl
by_cases (V4 a) (V6 b) = refl
by_cases (V6 a) (V4 b) = refl
by_cases (V6 a) (V6 b) = refl

pub derived_is : derived ≡ address_cmp
derived_is = λ i a b. by_cases a b i

pub get-places_seen : {A : Type 0} (m : BTreeMap SocketAddr (Place A)) (q : SocketAddr)
    → option_map place_seen (tree.get_by (derived q) m) ≡ fin.get (places_seen m.entries) q
get-places_seen m q =
    ap (λ R. option_map place_seen (tree.get_by (R q) m)) derived_is
    ∙ sym (get-seen address_total address_exact (λ a. a) place_seen m.entries q)

pub places_seen-updated : {A : Type 0} (m n : BTreeMap SocketAddr (Place A)) (a : SocketAddr)
    (v : Place A) → UpdatesBy derived (derived a) m n (Some v)
    → places_seen n.entries ≡ fin.insert (places_seen m.entries) a (place_seen v)
places_seen-updated m n a v updates =
    let changed =
    subst (λ (R : SocketAddr → SocketAddr → Ordering). (q : SocketAddr)
    → tree.get R n q ≡ cond (is_eq (R a q)) (Some v) (tree.get R m q)) derived_is updates.0 in
    seen_inserted address_total address_exact (λ x. x) place_seen m.entries n.entries a v changed

pub places_seen-removed : {A : Type 0} (m n : BTreeMap SocketAddr (Place A)) (a : SocketAddr)
    → UpdatesBy derived (derived a) m n None
    → places_seen n.entries ≡ fin.remove (places_seen m.entries) a
places_seen-removed m n a updates =
    let changed =
    subst (λ (R : SocketAddr → SocketAddr → Ordering). (q : SocketAddr)
    → tree.get R n q ≡ cond (is_eq (R a q)) None (tree.get R m q)) derived_is updates.0 in
    seen_removed address_total address_exact (λ x. x) place_seen m.entries n.entries a changed

-- what the finite map has there, where the tree map has it so
pub found_there : {A : Type 0} (m : BTreeMap SocketAddr (Place A)) (a : SocketAddr)
    (places : PlacesSeen) (o : Option (Place A)) → places_seen m.entries ≡ places
    → o ≡ tree.get_by (derived a) m → option_map place_seen o ≡ fin.get places a
found_there m a places o is found =
    ap (option_map place_seen) found ∙ get-places_seen m a ∙ ap (λ s. fin.get s a) is

-- a place that is a function of the one before
pub places_seen-changed : {A : Type 0} (m n : BTreeMap SocketAddr (Place A)) (a : SocketAddr)
    (places : PlacesSeen) (o : Option (Place A)) (new : Place A)
    (change : Option PlaceSeen → PlaceSeen) → places_seen m.entries ≡ places
    → o ≡ tree.get_by (derived a) m → UpdatesBy derived (derived a) m n (Some new)
    → place_seen new ≡ change (option_map place_seen o)
    → places_seen n.entries ≡ fin.insert places a (change (fin.get places a))
places_seen-changed m n a places o new change is found updates seen =
    places_seen-updated m n a new updates ∙ ap (λ s. fin.insert s a (place_seen new)) is
    ∙ ap (fin.insert places a) (seen ∙ ap change (found_there m a places o is found))

-- a place that was made
pub places_seen-made : {A : Type 0} (m n : BTreeMap SocketAddr (Place A)) (a : SocketAddr)
    (places : PlacesSeen) (o : Option (Place A)) (new : Place A)
    (change : Option PlaceSeen → PlaceSeen) → places_seen m.entries ≡ places
    → o ≡ tree.get_by (derived a) m → n.entries ≡ insert_entry derived m.entries a new
    → place_seen new ≡ change (option_map place_seen o)
    → places_seen n.entries ≡ fin.insert places a (change (fin.get places a))
places_seen-made m n a places o new change is found made seen =
    let entries : n.entries ≡ insert_entry address_cmp m.entries a new =
    made ∙ ap (λ R. insert_entry R m.entries a new) derived_is in
    seen_inserted address_total address_exact (λ x. x) place_seen m.entries n.entries a new
    (λ q. ap (lookup (eq_by_cmp address_cmp q)) entries
    ∙ lookup-inserted address_total (λ x. x) a new q m.entries)
    ∙ ap (λ s. fin.insert s a (place_seen new)) is
    ∙ ap (fin.insert places a) (seen ∙ ap change (found_there m a places o is found))

pub is_found : {A : Type 0} (m : BTreeMap SocketAddr (Place A)) (a : SocketAddr) (p : Place A)
    → Some p ≡ tree.get_by (derived a) m → IsSome (tree.get_by (derived a) m)
is_found m a p found = subst (λ o. IsSome o) found refl

-- a change of the place, where there is one
pub places_seen-at : {A : Type 0} (m n : BTreeMap SocketAddr (Place A)) (a : SocketAddr)
    (places : PlacesSeen) (old new : Place A) (change : PlaceSeen → PlaceSeen)
    → places_seen m.entries ≡ places → Some old ≡ tree.get_by (derived a) m
    → UpdatesBy derived (derived a) m n (Some new) → place_seen new ≡ change (place_seen old)
    → places_seen n.entries ≡ at_place (fin.get places a) places a change
places_seen-at m n a places old new change is found updates seen =
    places_seen-updated m n a new updates ∙ ap (λ s. fin.insert s a (place_seen new)) is
    ∙ ap (fin.insert places a) seen
    ∙ ap (λ o. at_place o places a change) (found_there m a places (Some old) is found)

pub places_seen-none : {A : Type 0} (m : BTreeMap SocketAddr (Place A)) (a : SocketAddr)
    (places : PlacesSeen) (change : PlaceSeen → PlaceSeen) → places_seen m.entries ≡ places
    → None ≡ tree.get_by (derived a) m → places ≡ at_place (fin.get places a) places a change
places_seen-none m a places change is found =
    ap (λ o. at_place o places a change) (found_there m a places None is found)

-- the records of what is stored of all addresses
pub seen_is : {stored now : PlacesKept} → stored ≡ now → stored.seen ≡ now.seen
seen_is is = ap (λ (p : PlacesKept). p.seen) is

-- ---- whose names are stored

same_users : {A : Type 0} (test : SocketAddr → Bool) (old new : Place A)
    → new.last_user ≡ old.last_user → (es : List (SocketAddr × Place A))
    → Some old ≡ lookup test es → last_users_of (set_value test es new) ≡ last_users_of es
same_users test old new same [] found = refl
same_users {A} test old new same (e ∷ es) found =
    by (test e.0) found (same_users test old new same es)
  where
    by : (b : Bool) → Some old ≡ cond b (Some e.1) (lookup test es)
        → (Some old ≡ lookup test es → last_users_of (set_value test es new) ≡ last_users_of es)
        → last_users_of (cond b ((e.0, new) ∷ es) (e ∷ set_value test es new))
        ≡ last_users_of (e ∷ es)
    by true is rest =
        ap (λ user. (e.0, option_map client_seen user) ∷ last_users_of es)
        (same ∙ ap (λ o. option_map_or (λ (p : Place A). p.last_user) o None) is)
    by false is rest =
        ap (λ users. (e.0, option_map client_seen e.1.last_user) ∷ users) (rest is)

-- a place that changes and keeps its user
pub last_users-written : {A : Type 0} (m : BTreeMap SocketAddr (Place A)) (a : SocketAddr)
    (old new : Place A) → Some old ≡ tree.get_by (derived a) m → new.last_user ≡ old.last_user
    → last_users_of (set_value (tree.is_at (derived a)) m.entries new) ≡ last_users_of m.entries
last_users-written m a old new found same =
    same_users (tree.is_at (derived a)) old new same m.entries found

-- ---- how many there are
none_found : {A : Type 0} (q : SocketAddr) (es : List (SocketAddr × Place A))
    → AllByRecursion (λ x. eq_by_cmp address_cmp q x ≡ false) (keys_of es)
    → is_some (fin.find address_cmp q (map (λ e. (e.0, place_seen e.1)) es)) ≡ false
none_found q [] apart = refl
none_found q (e ∷ es) apart =
    ap (λ b.
    is_some (cond b (Some (place_seen e.1))
    (fin.find address_cmp q (map (λ e. (e.0, place_seen e.1)) es)))) apart.0
    ∙ none_found q es apart.1

one_more : (b : Bool) (n m : ℕ) → b ≡ false → n ≡ m → cond b n (n + 1) ≡ suc m
one_more true n m there is = cc
one_more false n m there is = omega (arith, is)

len_distinct : {A : Type 0} (es : List (SocketAddr × Place A))
    → IsDistinct (eq_by_cmp address_cmp) (keys_of es) → fin.len (places_seen es) ≡ length es
len_distinct [] distinct = fin.len-empty address_cmp PlaceSeen
len_distinct (e ∷ es) distinct =
    fin.len-insert address_total (places_seen es) e.0 (place_seen e.1)
    ∙ one_more _ _ _
    (ap is_some (fin.get-from_entries address_total (map (λ e. (e.0, place_seen e.1)) es) e.0)
    ∙ none_found e.0 es (IsDistinct-head (eq_by_cmp address_cmp) e.0 (keys_of es) distinct))
    (len_distinct es (IsDistinct-tail (eq_by_cmp address_cmp) e.0 (keys_of es) distinct))

-- the finite map has as many addresses as the tree map has entries
pub len-places_seen : {A : Type 0} (es : List (SocketAddr × Place A))
    → IsStrictlySortedBy derived (keys_of es) → fin.len (places_seen es) ≡ length es
len-places_seen es sorted =
    len_distinct es
    (IsDistinct-from_sorted address_cmp (keys_of es)
    (subst (λ (R : SocketAddr → SocketAddr → Ordering). IsStrictlySortedBy R (keys_of es))
    derived_is sorted))
