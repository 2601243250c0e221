-- The places that are kept where a test holds, address by address.
use Rattle.std.proofs.Common.{◌≡◌, ℕ, Bool, true, false, Option, Some, None, refl, sym, ◌∙◌, ap}
use Rattle.std.specs.Prelude.{cond, not, ◌||◌}
use Rattle.std.specs.Option.{is_some, option_map_or, IsSome}
use Rattle.std.specs.Cmp.{Equal-is, eq_by_cmp_equiv}
use Rattle.std.specs.FinMap as fin
use Rattle.std.specs.declared.net.socket_addr.SocketAddr.{SocketAddr}
use Rattle.stun_base.specs.Address.{address_cmp, same_address}
use Rattle.stun_auth.specs.Forgetting.{is_forgotten, place_kept, places_kept}
use Rattle.stun_auth.specs.ForgettingSteps.{places_kept_where}
use Rattle.stun_auth.specs.Places.{PlacesSeen}
use Rattle.stun_auth.specs.Seen.{PlaceSeen}
use Rattle.stun_base.proofs.Addresses.{address_total, address_exact}
use Rattle.stun_auth.proofs.Forgotten.{get-places_kept, same_place}

chosen_place : (b : Bool) (now : ℕ) (o : Option PlaceSeen)
    → cond (not b || is_some (place_kept now o)) o None ≡ cond b (place_kept now o) o
chosen_place false now o = refl
chosen_place true now o = same_place now o

pub get-kept_where : (chosen : SocketAddr → Bool) (now : ℕ) (places : PlacesSeen) (q : SocketAddr)
    → fin.get (places_kept_where chosen now places) q
    ≡ cond (chosen q) (place_kept now (fin.get places q)) (fin.get places q)
get-kept_where chosen now places q =
    fin.get-retain_keys places
    (λ a. not (chosen a) || is_some (place_kept now (fin.get places a))) q
    (λ x tied. ap (λ a. not (chosen a) || is_some (place_kept now (fin.get places a)))
    (sym (address_exact q x tied)))
    ∙ chosen_place (chosen q) now (fin.get places q)

-- tests that agree wherever there is a place keep the same places
same_chosen : (now : ℕ) (o : Option PlaceSeen) (b c : Bool) → (IsSome o → b ≡ c)
    → cond b (place_kept now o) o ≡ cond c (place_kept now o) o
same_chosen now None true true h = refl
same_chosen now None true false h = refl
same_chosen now None false true h = refl
same_chosen now None false false h = refl
same_chosen now (Some place) b c h =
    ap (λ t. cond t (place_kept now (Some place)) (Some place)) (h refl)

pub places_kept_where-same : (chosen others : SocketAddr → Bool) (now : ℕ) (places : PlacesSeen)
    → ((q : SocketAddr) → IsSome (fin.get places q) → chosen q ≡ others q)
    → places_kept_where chosen now places ≡ places_kept_where others now places
places_kept_where-same chosen others now places same =
    fin.same_map address_total address_exact _ _ (λ q.
    get-kept_where chosen now places q
    ∙ same_chosen now (fin.get places q) (chosen q) (others q) (same q)
    ∙ sym (get-kept_where others now places q))

-- what was kept once is kept again
kept_again : (now : ℕ) (o : Option PlaceSeen) → place_kept now (place_kept now o) ≡ place_kept now o
kept_again now None = refl
kept_again now (Some place) = by (is_forgotten now place) refl
  where
    by : (b : Bool) → is_forgotten now place ≡ b
        → place_kept now (cond b None (Some place)) ≡ cond b None (Some place)
    by true is = refl
    by false is = ap (λ b. cond b None (Some place)) is

-- one test after another chooses what either does
twice : (now : ℕ) (o : Option PlaceSeen) (b c : Bool)
    → cond c (place_kept now (cond b (place_kept now o) o)) (cond b (place_kept now o) o)
    ≡ cond (b || c) (place_kept now o) o
twice now o true true = kept_again now o
twice now o true false = refl
twice now o false true = refl
twice now o false false = refl

pub places_kept_where-twice : (chosen others : SocketAddr → Bool) (now : ℕ) (places : PlacesSeen)
    → places_kept_where others now (places_kept_where chosen now places)
    ≡ places_kept_where (λ a. chosen a || others a) now places
places_kept_where-twice chosen others now places =
    fin.same_map address_total address_exact _ _ (λ q.
    get-kept_where others now (places_kept_where chosen now places) q
    ∙ ap (λ o. cond (others q) (place_kept now o) o) (get-kept_where chosen now places q)
    ∙ twice now (fin.get places q) (chosen q) (others q)
    ∙ sym (get-kept_where (λ a. chosen a || others a) now places q))

-- what is kept of a place, by whether it is forgotten
kept_by : (now : ℕ) (o : Option PlaceSeen) (b : Bool)
    → option_map_or (is_forgotten now) o false ≡ b → cond b None o ≡ place_kept now o
kept_by now None true h = refl
kept_by now None false h = refl
kept_by now (Some place) b h = ap (λ b. cond b None (Some place)) (sym h)

-- the same address has the same place
kept_there : (a q : SocketAddr) (now : ℕ) (places : PlacesSeen) (b : Bool)
    → option_map_or (is_forgotten now) (fin.get places a) false ≡ b → same_address a q ≡ true
    → cond b None (fin.get places q) ≡ place_kept now (fin.get places q)
kept_there a q now places b is same =
    kept_by now (fin.get places q) b
    (ap (λ x. option_map_or (is_forgotten now) (fin.get places x) false)
    (sym (address_exact a q ((Equal-is (address_cmp a q)).0 same))) ∙ is)

-- where a test holds one value may take the place of another
in_place : (b : Bool) (x y o : Option PlaceSeen) → (b ≡ true → x ≡ y) → cond b x o ≡ cond b y o
in_place true x y o h = h refl
in_place false x y o h = refl

unless_chosen : (b : Bool) (y o : Option PlaceSeen) → (b ≡ true → o ≡ y) → o ≡ cond b y o
unless_chosen true y o h = h refl
unless_chosen false y o h = refl

-- where one address alone is chosen, it is forgotten or nothing changes
pub kept_if_expired : (a : SocketAddr) (now : ℕ) (places : PlacesSeen)
    → option_map_or (is_forgotten now) (fin.get places a) false ≡ true
    → fin.remove places a ≡ places_kept_where (same_address a) now places
kept_if_expired a now places expired = fin.same_map address_total address_exact _ _ (λ q.
    fin.get-remove address_total places a q
    ∙ ap (λ b. cond b None (fin.get places q)) ((eq_by_cmp_equiv address_total).symm q a)
    ∙ in_place (same_address a q) None (place_kept now (fin.get places q)) (fin.get places q)
    (kept_there a q now places true expired)
    ∙ sym (get-kept_where (same_address a) now places q))

pub kept_if_current : (a : SocketAddr) (now : ℕ) (places : PlacesSeen)
    → option_map_or (is_forgotten now) (fin.get places a) false ≡ false
    → places ≡ places_kept_where (same_address a) now places
kept_if_current a now places current = fin.same_map address_total address_exact _ _ (λ q.
    unless_chosen (same_address a q) (place_kept now (fin.get places q)) (fin.get places q)
    (kept_there a q now places false current)
    ∙ sym (get-kept_where (same_address a) now places q))

pub kept_if : (a : SocketAddr) (now : ℕ) (places : PlacesSeen) (b : Bool)
    → b ≡ option_map_or (is_forgotten now) (fin.get places a) false
    → cond b (fin.remove places a) places ≡ places_kept_where (same_address a) now places
kept_if a now places true is = kept_if_expired a now places (sym is)
kept_if a now places false is = kept_if_current a now places (sym is)

-- where nothing is chosen all stay, and where all are chosen it is forgetting at once
pub places_kept_where-none : (now : ℕ) (places : PlacesSeen)
    → places_kept_where (λ a. false) now places ≡ places
places_kept_where-none now places =
    fin.same_map address_total address_exact _ _ (λ q. get-kept_where (λ a. false) now places q)

pub places_kept_where-all : (now : ℕ) (places : PlacesSeen)
    → places_kept_where (λ a. true) now places ≡ places_kept now places
places_kept_where-all now places = fin.same_map address_total address_exact _ _ (λ q.
    get-kept_where (λ a. true) now places q ∙ sym (get-places_kept now places q))
