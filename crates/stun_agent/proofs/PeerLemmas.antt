-- An address that is there stays there, and no other comes; one that is forgotten goes, no other.
use Rattle.std.proofs.Common.{◌≡◌, Bool, true, false, [], ◌∷◌, refl, sym, ap, subst, ◌∙◌}
use Rattle.std.specs.Prelude.{cond, not, ◌&&◌, ◌||◌, ◌↔◌, IsTrue}
use Rattle.std.specs.List.{filter, list_any}
use Rattle.std.specs.List.{AllByRecursion}
use Rattle.std.specs.List.Sorted.{IsStrictlySortedBy}
use Rattle.std.specs.BTreeSet.{insert_key}
use Rattle.std.specs.Set.{remove_key}
use Rattle.std.proofs.lemmas.Map.Views.{any-filter_same}
use Rattle.std.specs.Ordering.{is_eq, match_ordering, ordering_reverse}
use Rattle.std.specs.declared.cmp.Ordering.{Ordering}
use Rattle.std.specs.declared.cmp.Ordering.TheVariants.{Less, Equal, Greater}
use Rattle.std.specs.declared.net.socket_addr.SocketAddr.{SocketAddr}
use Rattle.std.specs.declared.net.socket_addr.SocketAddr.TheVariants.{V4, V6}
use Rattle.std.specs.contracts.net.socket_addr.SocketAddrOrd.TheImpl.{cmp-value}
use Rattle.stun_base.specs.Address.{address_cmp, same_address}
use Rattle.stun_agent.specs.Agent.{Agent}
use Rattle.stun_agent.specs.Peers.{Peers, is_peer, with_peer, without_peer}
use Rattle.stun_base.proofs.Addresses.{address_total, address_exact}

-- an agent of which the peers alone have become others
pub changed_peers : {inside now : Agent} (f : Peers → Peers) (new : Peers) → inside ≡ now
    → new ≡ f inside.peers → record inside { peers = new } ≡ record now { peers = f now.peers }
changed_peers {inside = inside} f new is same =
    ap (λ peers. record inside { peers = peers }) same
    ∙ ap (λ (a : Agent). record a { peers = f a.peers }) is

-- ---- a set
twice : (s r : Bool) → (s || r) ≡ (s || (s || r))
twice true r = refl
twice false r = refl

turned : (s t r : Bool) → (s || (t || r)) ≡ (t || (s || r))
turned true true r = refl
turned true false r = refl
turned false true r = refl
turned false false r = refl

-- addresses that tie are told from others alike
same_to : (a x b : SocketAddr) → address_cmp a x ≡ Equal → same_address b a ≡ same_address b x
same_to a x b tie =
    ap is_eq
    (address_total.antisymm b a ∙ ap ordering_reverse (address_total.congr a x b tie)
    ∙ sym (address_total.antisymm b x))

-- an address is there once it is put in, and no other comes
pub is_peer-with_peer : (a b : SocketAddr) (peers : Peers)
    → is_peer b (with_peer a peers) ≡ (same_address b a || is_peer b peers)
is_peer-with_peer a b [] = refl
is_peer-with_peer a b (x ∷ xs) = by (address_cmp a x) refl (is_peer-with_peer a b xs)
  where
    by : (r : Ordering) → address_cmp a x ≡ r
        → is_peer b (with_peer a xs) ≡ (same_address b a || is_peer b xs)
        → is_peer b (match_ordering r (a ∷ x ∷ xs) (x ∷ xs) (x ∷ with_peer a xs))
        ≡ (same_address b a || (same_address b x || is_peer b xs))
    by Less is rest = refl
    by Equal is rest = ap (λ s. s || is_peer b xs) (sym (same_to a x b is))
        ∙ twice (same_address b a) (is_peer b xs)
        ∙ ap (λ s. same_address b a || (s || is_peer b xs)) (same_to a x b is)
    by Greater is rest = ap (λ r. same_address b x || r) rest
        ∙ turned (same_address b x) (same_address b a) (is_peer b xs)

pub same_address-exact : (a b : SocketAddr) → same_address a b ≡ true → a ≡ b
same_address-exact a b h = by (address_cmp a b) refl h
  where
    by : (r : Ordering) → address_cmp a b ≡ r → is_eq r ≡ true → a ≡ b
    by Less is h = cc
    by Equal is h = address_exact a b is
    by Greater is h = cc

pub same_address-own : (a : SocketAddr) → same_address a a ≡ true
same_address-own a = by (address_cmp a a) (address_total.antisymm a a)
  where
    by : (r : Ordering) → r ≡ ordering_reverse r → is_eq r ≡ true
    by Less h = cc
    by Equal h = refl
    by Greater h = cc

-- what tells whether two addresses are equal tells whether they tie
pub same_address-told : (b : Bool) (x y : SocketAddr) → (IsTrue b ↔ (x ≡ y)) → b ≡ same_address x y
same_address-told b x y told = by b (same_address x y) refl told
  where
    by : (c s : Bool) → same_address x y ≡ s → (IsTrue c ↔ (x ≡ y)) → c ≡ s
    by true true is h = refl
    by false false is h = refl
    by true false is h = let own : same_address x y ≡ true =
        subst (λ z. same_address x z ≡ true) (h.0 refl) (same_address-own x) in cc
    by false true is h = let no : false ≡ true = h.1 (same_address-exact x y is) in cc

-- ---- forgetting
turned_is : (r : Ordering) → is_eq (ordering_reverse r) ≡ is_eq r
turned_is Less = refl
turned_is Equal = refl
turned_is Greater = refl

same_address-turned : (a b : SocketAddr) → same_address a b ≡ same_address b a
same_address-turned a b = ap is_eq (address_total.antisymm a b) ∙ turned_is (address_cmp b a)

-- an address is there no more once it is forgotten, and each other is there as before
pub is_peer-without_peer : (a b : SocketAddr) (peers : Peers)
    → is_peer b (without_peer a peers) ≡ (not (same_address b a) && is_peer b peers)
is_peer-without_peer a b peers =
    any-filter_same (same_address b) (λ x. not (same_address a x)) (not (same_address b a))
    (λ x is. ap (λ y. not (same_address a y)) (sym (same_address-exact b x is))
    ∙ ap not (same_address-turned a b)) peers

-- a test that no key passes takes none away
all_kept : (t : SocketAddr → Bool) (peers : Peers) → list_any t peers ≡ false
    → filter (λ peer. not (t peer)) peers ≡ peers
all_kept t [] none = refl
all_kept t (x ∷ xs) none = by (t x) (all_kept t xs) none
  where
    by : (b : Bool) → (list_any t xs ≡ false → filter (λ peer. not (t peer)) xs ≡ xs)
        → (b || list_any t xs) ≡ false
        → cond (not b) (x ∷ filter (λ peer. not (t peer)) xs) (filter (λ peer. not (t peer)) xs)
        ≡ (x ∷ xs)
    by true rest none = cc
    by false rest none = ap (λ ys. x ∷ ys) (rest none)

-- what is left without the first key that passes a test is what is left without all of them, where
-- none passes that is left
remove_key-filter : (t : SocketAddr → Bool) (peers : Peers)
    → list_any t (remove_key t peers) ≡ false
    → remove_key t peers ≡ filter (λ peer. not (t peer)) peers
remove_key-filter t [] none = refl
remove_key-filter t (x ∷ xs) none = by (t x) refl (remove_key-filter t xs) none
  where
    by : (b : Bool) → t x ≡ b
        → (list_any t (remove_key t xs) ≡ false
        → remove_key t xs ≡ filter (λ peer. not (t peer)) xs)
        → list_any t (cond b xs (x ∷ remove_key t xs)) ≡ false
        → cond b xs (x ∷ remove_key t xs)
        ≡ cond (not b) (x ∷ filter (λ peer. not (t peer)) xs) (filter (λ peer. not (t peer)) xs)
    by true is rest none = sym (all_kept t xs none)
    by false is rest none =
        ap (λ ys. x ∷ ys) (rest (ap (λ b. b || list_any t (remove_key t xs)) (sym is) ∙ none))

-- the order that `SocketAddr` derives
abbrev pub derived : SocketAddr → SocketAddr → Ordering
derived = cmp-value.it

by_cases : (a b : SocketAddr) → derived a b ≡ address_cmp a b
by_cases (V4 a) (V4 b) = refl
by_cases (V4 a) (V6 b) = refl
by_cases (V6 a) (V4 b) = refl
by_cases (V6 a) (V6 b) = refl

-- a set of addresses without the one that is taken out
pub without_peer-removed : (a : SocketAddr) (old new : Peers)
    → new ≡ remove_key (λ x. is_eq (derived a x)) old
    → list_any (λ x. is_eq (derived a x)) new ≡ false → new ≡ without_peer a old
without_peer-removed a old new removed none =
    removed ∙ remove_key-filter (λ x. is_eq (derived a x)) old
    (ap (list_any (λ x. is_eq (derived a x))) (sym removed) ∙ none)
    ∙ ap (λ (R : SocketAddr → SocketAddr → Ordering). filter (λ x. not (is_eq (R a x))) old)
    (λ i a b. by_cases a b i)

-- ---- adding again
-- an address below another is none of those above that one
none_above : (a x : SocketAddr) (xs : Peers) → address_cmp a x ≡ Less
    → AllByRecursion (λ y. address_cmp x y ≡ Less) xs → is_peer a xs ≡ false
none_above a x [] below above = refl
none_above a x (y ∷ ys) below above =
    ap (λ r. is_eq r || is_peer a ys) (address_total.trans a x y below above.0)
    ∙ none_above a x ys below above.1

-- an address that is there is not put in again
there_already : (a : SocketAddr) (peers : Peers) → IsStrictlySortedBy address_cmp peers
    → is_peer a peers ≡ true → with_peer a peers ≡ peers
unfolding IsStrictlySortedBy
there_already a [] sorted there = cc
there_already a (x ∷ xs) sorted there =
    by (address_cmp a x) refl (there_already a xs sorted.1) there
  where
    by : (r : Ordering) → address_cmp a x ≡ r → (is_peer a xs ≡ true → with_peer a xs ≡ xs)
        → (is_eq r || is_peer a xs) ≡ true
        → match_ordering r (a ∷ x ∷ xs) (x ∷ xs) (x ∷ with_peer a xs) ≡ (x ∷ xs)
    by Less is rest there = let none = none_above a x xs is sorted.0 in cc
    by Equal is rest there = refl
    by Greater is rest there = ap (λ l. x ∷ l) (rest there)

-- a set of addresses stays as it is if one of them is put in again
pub with_peer-there : (a : SocketAddr) (old new : Peers) → IsStrictlySortedBy derived old
    → new ≡ insert_key derived old a → IsTrue (is_peer a old) → new ≡ old
with_peer-there a old new sorted put there =
    put
    ∙ subst (λ (R : SocketAddr → SocketAddr → Ordering).
    IsStrictlySortedBy R old → insert_key R old a ≡ old)
    (λ i a b. sym (by_cases a b) i) (λ in_order. there_already a old in_order there) sorted
