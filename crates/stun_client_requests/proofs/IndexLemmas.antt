-- All that holds of the indices by number, after each change, and what is seen of it.
use Rattle.std.proofs.Common.{[]}
use Rattle.std.proofs.Common.{◌≡◌, ◌∙◌, ◌≤◌, ◌+◌, ◌-◌, ℕ, Bool, true, false, List, ◌∷◌}
use Rattle.std.proofs.Common.{Option}
use Rattle.std.proofs.Common.{Some, None, IfNone, ap, arith, cond, length, refl, subst, sym}
use Rattle.std.specs.BTreeMap.{insert_entry, is_at}
use Rattle.std.specs.BTreeSet.{insert_key}
use Rattle.std.specs.BinaryHeap.{IsHeap, KeepsHeap}
use Rattle.std.specs.Set.{remove_key}
use Rattle.std.specs.List.{count_by, list_any}
use Rattle.std.specs.List.{AllByRecursion}
use Rattle.std.specs.List.Sorted.{IsPermutation, IsStrictlySortedBy}
use Rattle.std.specs.Map.{remove_entry, values_of}
use Rattle.std.specs.Option.{is_none, option_and_then, option_map, option_map_or}
use Rattle.std.specs.Cmp.{nat_cmp_total}
use Rattle.std.specs.Ordering.{is_eq, match_ordering, nat_cmp}
use Rattle.std.specs.declared.cmp.Ordering.{Ordering}
use Rattle.std.specs.declared.cmp.Ordering.TheVariants.{Less, Equal, Greater}
use Rattle.std.specs.Prelude.{not, ◌||◌}
use Rattle.std.specs.declared.cmp.Reverse.{Reverse}
use Rattle.std.proofs.lemmas.List.Sorted.{length_permutation}
use Rattle.stun_client_requests.specs.Numbers.{after_unmark}
use Rattle.stun_client_requests.specs.Numbers.{AllKnown, IsAt, NumbersSeen, end_in, end_of_first}
use Rattle.stun_client_requests.specs.Numbers.{first_ended}
use Rattle.stun_client_requests.specs.Numbers.{is_ended, is_outstanding, known_at, without_first}
use Rattle.stun_client_requests.specs.Numbers.{first_in, first_unsent, id_at, id_in}
use Rattle.stun_client_requests.specs.Numbers.{is_outstanding_at}
use Rattle.stun_client_requests.specs.Numbers.{others_in, without_first_unsent}
use Rattle.stun_client_requests.specs.declared.numbers.Known.{Known}
use Rattle.stun_client_requests.specs.declared.numbers.Known.TheVariants.{Outstanding, Ended}
use Rattle.stun_client_requests.specs.code.Indices.{AreIndices, has_ended, is_open, later}
use Rattle.stun_client_requests.proofs.NumberLemmas.{Ascend, HasKeys, count_put, count_removed}
use Rattle.stun_client_requests.proofs.NumberLemmas.{keys_out, keys_put, listed_less, listed_more}
use Rattle.stun_client_requests.proofs.NumberLemmas.{listed_still, same_key, still, take_back}
use Rattle.stun_client_requests.proofs.NumberLemmas.{taken_ended, tested, unit}

-- ---- all of it, after each change

pub removed_one : {E : Type 0} (n : ℕ) (known : AllKnown E) (unsent : List ℕ)
    (items : List (Reverse ℕ)) (ended room outstanding : ℕ)
    → AreIndices known unsent items ended room outstanding → is_open known n ≡ true
    → 1 ≤ outstanding
removed_one n known unsent items ended room outstanding i goes =
    let counts = count_removed n known in
    let one : unit (is_open known n) ≡ 1 = ap unit goes in
    let had = i.counted in
    omega arith

not_ended : {E : Type 0} (o : Option (Known E)) → option_map_or is_outstanding o false ≡ true
    → option_map_or is_ended o false ≡ false
not_ended None goes = cc
not_ended (Some (Outstanding id)) goes = refl
not_ended (Some (Ended end)) goes = cc

pub removed_so : {E : Type 0} (n : ℕ) (known new : AllKnown E) (unsent fewer : List ℕ)
    (items : List (Reverse ℕ)) (ended room outstanding : ℕ)
    → AreIndices known unsent items ended room outstanding → is_open known n ≡ true
    → new ≡ remove_entry (is_at (nat_cmp n)) known → IsAt n None known new
    → ((q : ℕ) → list_any (is_at (nat_cmp q)) fewer
    ≡ cond (is_at (nat_cmp n) q) false (list_any (is_at (nat_cmp q)) unsent))
    → AreIndices new fewer items ended room (outstanding - 1)
removed_so n known new unsent fewer items ended room outstanding i goes made at out = record {
  in_order = i.in_order;
  listed = listed_still known new items items i.listed refl
      (still is_ended n None known new at (sym (not_ended (known_at n known) goes)));
  long = i.long;
  counted =
      let counts = count_removed n known in
      let one : unit (is_open known n) ≡ 1 = ap unit goes in
      let had = i.counted in
      let same : count_by is_outstanding (values_of new)
      ≡ count_by is_outstanding (values_of (remove_entry (is_at (nat_cmp n)) known)) =
      ap (λ es. count_by is_outstanding (values_of es)) made in
      omega arith;
  fits = let had = i.fits in omega arith;
  sendable = keys_out n known new unsent fewer i.sendable
      (tested is_outstanding n None known new at) out;
}

pub ended_so : {E : Type 0} (n : ℕ) (end : E) (known new : AllKnown E) (unsent fewer : List ℕ)
    (x : Reverse ℕ) (items more : List (Reverse ℕ)) (ended after room outstanding : ℕ)
    → Ascend known → AreIndices known unsent items ended room outstanding → is_open known n ≡ true
    → new ≡ insert_entry nat_cmp known n (Ended end) → IsAt n (Some (Ended end)) known new
    → ((q : ℕ) → list_any (is_at (nat_cmp q)) fewer
    ≡ cond (is_at (nat_cmp n) q) false (list_any (is_at (nat_cmp q)) unsent))
    → x.0 ≡ n → IsPermutation (x ∷ items) more → KeepsHeap later items more → after ≡ ended + 1
    → (long : ℕ) → room ≤ long
    → AreIndices new fewer more after long (outstanding - 1)
ended_so n end known new unsent fewer x items more ended after room outstanding s i goes made at
    out here
    moved keeps one_more long no_less_room = record {
      in_order = keeps i.in_order;
      listed = listed_more known new n x items more i.listed here moved
          (tested is_ended n (Some (Ended end)) known new at) (not_ended (known_at n known) goes);
      long =
          let had = i.long in
          let same : length more ≡ length (x ∷ items) = length_permutation (x ∷ items) more moved in
          omega arith;
      counted =
          let counts = count_put n (Ended end) known s in
          let one : unit (is_open known n) ≡ 1 = ap unit goes in
          let had = i.counted in
          let same : count_by is_outstanding (values_of new)
          ≡ count_by is_outstanding (values_of (insert_entry nat_cmp known n (Ended end))) =
          ap (λ es. count_by is_outstanding (values_of es)) made in
          omega arith;
      fits =
          let had = i.fits in
          let some = removed_one n known unsent items ended room outstanding i goes in
          omega arith;
      sendable = keys_out n known new unsent fewer i.sendable
          (tested is_outstanding n (Some (Ended end)) known new at) out;
    }

pub put_so : {E : Type 0} (n id : ℕ) (known new : AllKnown E) (unsent more : List ℕ)
    (items same : List (Reverse ℕ)) (ended after room long outstanding now : ℕ)
    → Ascend known → AreIndices known unsent items ended room outstanding
    → has_ended known n ≡ false
    → new ≡ insert_entry nat_cmp known n (Outstanding id) → IsAt n (Some (Outstanding id)) known new
    → ((q : ℕ) → list_any (is_at (nat_cmp q)) more
    ≡ cond (is_at (nat_cmp n) q) true (list_any (is_at (nat_cmp q)) unsent))
    → same ≡ items → after ≡ ended → now + unit (is_open known n) ≡ outstanding + 1
    → after + (outstanding + 1) ≤ long
    → AreIndices new more same after long now
put_so n id known new unsent more items same ended after room long outstanding now s i none made
    at out
    unchanged so one_more fits = record {
      in_order = subst (λ xs. IsHeap later xs) (sym unchanged) i.in_order;
      listed = listed_still known new items same i.listed unchanged
          (still is_ended n (Some (Outstanding id)) known new at (sym none));
      long = so ∙ i.long ∙ ap length (sym unchanged);
      counted =
          let counts = count_put n (Outstanding id) known s in
          let had = i.counted in
          let same : count_by is_outstanding (values_of new)
          ≡ count_by is_outstanding (values_of (insert_entry nat_cmp known n (Outstanding id))) =
          ap (λ es. count_by is_outstanding (values_of es)) made in
          omega arith;
      fits = omega arith;
      sendable = keys_put n known new unsent more i.sendable
          (tested is_outstanding n (Some (Outstanding id)) known new at) out;
    }

open_still : {E : Type 0} (o : Option (Known E)) → is_none o ≡ false
    → option_map_or is_ended o false ≡ false → unit (option_map_or is_outstanding o false) ≡ 1
open_still None some none = cc
open_still (Some (Outstanding id)) some none = refl
open_still (Some (Ended end)) some none = cc

open_not : {E : Type 0} (o : Option (Known E)) → is_none o ≡ true
    → unit (option_map_or is_outstanding o false) ≡ 0
open_not None none = refl
open_not (Some k) none = cc

pub new_is_open : {E : Type 0} (known : AllKnown E) (n : ℕ) (is_new : Bool)
    → is_new ≡ is_none (known_at n known) → is_new ≡ true → unit (is_open known n) ≡ 0
new_is_open known n is_new is so = open_not (known_at n known) (sym is ∙ so)

pub old_is_open : {E : Type 0} (known : AllKnown E) (n : ℕ) (is_new : Bool)
    → is_new ≡ is_none (known_at n known) → is_new ≡ false → has_ended known n ≡ false
    → unit (is_open known n) ≡ 1
old_is_open known n is_new is so none = open_still (known_at n known) (sym is ∙ so) none

pub none_unsent : {E : Type 0} (known : AllKnown E) (n : ℕ) (unsent : List ℕ) → HasKeys known unsent
    → known_at n known ≡ None → list_any (is_at (nat_cmp n)) unsent ≡ false
none_unsent known n unsent has none = by (list_any (is_at (nat_cmp n)) unsent) refl
  where
    by : (b : Bool) → list_any (is_at (nat_cmp n)) unsent ≡ b → b ≡ false
    by false is = refl
    by true is =
        let some = has n is in
        let not : is_open known n ≡ false = ap (λ o. option_map_or is_outstanding o false) none in
        cc

not_open : {E : Type 0} (o : Option (Known E)) → option_map_or is_ended o false ≡ true
    → option_map_or is_outstanding o false ≡ false
not_open None done = cc
not_open (Some (Outstanding id)) done = cc
not_open (Some (Ended end)) done = refl

pub popped_so : {E : Type 0} (known new : AllKnown E) (unsent : List ℕ) (x : Reverse ℕ)
    (items rest : List (Reverse ℕ)) (ended after room long outstanding : ℕ)
    → AreIndices known unsent items ended room outstanding
    → new ≡ remove_entry (is_at (nat_cmp x.0)) known → IsAt x.0 None known new
    → IsPermutation items (x ∷ rest) → IsHeap later rest → after + 1 ≡ ended → long ≡ room
    → AreIndices new unsent rest after long outstanding
popped_so known new unsent x items rest ended after room long outstanding i made at moved heap
    one_less
    same_room = record {
      in_order = heap;
      listed = listed_less known new x items rest i.listed moved (tested is_ended x.0 None known
          new at);
      long =
          let all = i.long in
          let same : length (x ∷ rest) ≡ length items = length_permutation items (x ∷ rest) moved in
          omega arith;
      counted =
          let counts = count_removed x.0 known in
          let none : unit (is_open known x.0) ≡ 0 = ap unit shut in
          let had = i.counted in
          let same : count_by is_outstanding (values_of new)
          ≡ count_by is_outstanding (values_of (remove_entry (is_at (nat_cmp x.0)) known)) =
          ap (λ es. count_by is_outstanding (values_of es)) made in
          omega arith;
      fits = let had = i.fits in omega arith;
      sendable = λ q there. still is_outstanding x.0 None known new at (sym shut) q ∙ i.sendable
          q there;
    }
  where
    shut : is_open known x.0 ≡ false
    shut = not_open (known_at x.0 known) (taken_ended known x items rest i.listed moved)

-- ---- what is seen of it

abbrev pub seen : {E : Type 0} → AllKnown E → List ℕ → NumbersSeen E
seen known unsent = record { known = known; unsent = unsent }

pub seen_same : {E : Type 0} (known new : AllKnown E) (unsent keys : List ℕ) → new ≡ known
    → keys ≡ unsent → seen new keys ≡ seen known unsent
seen_same known new unsent keys a b =
    ap (λ es. seen es keys) a ∙ ap (λ ks. seen known ks) b

pub without_none : {E : Type 0} (s : NumbersSeen E) → first_ended s ≡ None → without_first s ≡ s
without_none s none =
    ap (λ o. seen (option_map_or (λ n. remove_entry (is_at (nat_cmp n)) s.known) o s.known)
    s.unsent)
    none

pub without_some : {E : Type 0} (s : NumbersSeen E) (n : ℕ) → first_ended s ≡ Some n
    → without_first s ≡ seen (remove_entry (is_at (nat_cmp n)) s.known) s.unsent
without_some s n some =
    ap (λ o. seen (option_map_or (λ n. remove_entry (is_at (nat_cmp n)) s.known) o s.known)
    s.unsent)
    some

pub end_none : {E : Type 0} (s : NumbersSeen E) → first_ended s ≡ None → None ≡ end_of_first s
end_none s none =
    sym (ap (λ o. option_and_then
    (λ n. option_map (λ end. (n, end)) (option_and_then end_in (known_at n s.known))) o) none)

pub end_some : {E : Type 0} (s : NumbersSeen E) (n : ℕ) → first_ended s ≡ Some n
    → option_map (λ end. (n, end)) (option_and_then end_in (known_at n s.known)) ≡ end_of_first s
end_some s n some =
    sym (ap (λ o. option_and_then
    (λ n. option_map (λ end. (n, end)) (option_and_then end_in (known_at n s.known))) o) some)

ended_some : {E : Type 0} (k : Option (Known E)) (n : ℕ) (P : Type 0)
    → option_map_or is_ended k false ≡ true
    → IfNone {T = ℕ × E} (option_map (λ end. (n, end)) (option_and_then end_in k)) P
ended_some None n P done = cc
ended_some (Some (Outstanding id)) n P done = cc
ended_some (Some (Ended end)) n P done = tt

-- a request that has ended has an end
pub has_end : {E : Type 0} (k : Option (Known E)) (n : ℕ) (o : Option (ℕ × E)) (P : Type 0)
    → o ≡ option_map (λ end. (n, end)) (option_and_then end_in k)
    → option_map_or is_ended k false ≡ true → IfNone o P
has_end {E} k n o P made done =
    subst (λ x. IfNone {T = ℕ × E} x P) (sym made) (ended_some k n P done)

open_some : {E : Type 0} (o : Option (Known E)) (id : ℕ) → option_and_then id_in o ≡ Some id
    → option_map_or is_outstanding o false ≡ true
open_some None id some = cc
open_some (Some (Outstanding k)) id some = refl
open_some (Some (Ended end)) id some = cc

pub unsent_none : {E : Type 0} (s : NumbersSeen E) → None ≡ first_unsent s
    → without_first_unsent s ≡ s
unsent_none s none = ap (λ ks. seen s.known ks) (by s.unsent none)
  where
    by : (ks : List ℕ) → None ≡ first_in ks → others_in ks ≡ ks
    by [] none = refl
    by (k ∷ ks) none = cc

pub open_at : {E : Type 0} (n id : ℕ) (s : NumbersSeen E) → id_at n s ≡ Some id
    → is_outstanding_at n s ≡ true
open_at n id s some = open_some (known_at n s.known) id some

-- ---- marks and other IDs

-- a number below another is none of those above that one
none_above : (n x : ℕ) (xs : List ℕ) → nat_cmp n x ≡ Less
    → AllByRecursion (λ y. nat_cmp x y ≡ Less) xs → list_any (is_at (nat_cmp n)) xs ≡ false
none_above n x [] below above = refl
none_above n x (y ∷ ys) below above =
    ap (λ r. is_eq r || list_any (is_at (nat_cmp n)) ys) (nat_cmp_total.trans n x y below above.0)
    ∙ none_above n x ys below above.1

-- a key that is there already is not put in again
there_already : (n : ℕ) (ks : List ℕ) → IsStrictlySortedBy nat_cmp ks
    → list_any (is_at (nat_cmp n)) ks ≡ true → insert_key nat_cmp ks n ≡ ks
unfolding IsStrictlySortedBy
there_already n [] sorted there = cc
there_already n (x ∷ xs) sorted there =
    by (nat_cmp n x) refl (there_already n xs sorted.1) there
  where
    by : (r : Ordering) → nat_cmp n x ≡ r
        → (list_any (is_at (nat_cmp n)) xs ≡ true → insert_key nat_cmp xs n ≡ xs)
        → (is_eq r || list_any (is_at (nat_cmp n)) xs) ≡ true
        → match_ordering r (n ∷ x ∷ xs) (x ∷ xs) (x ∷ insert_key nat_cmp xs n) ≡ (x ∷ xs)
    by Less is rest there = let none = none_above n x xs is sorted.0 in cc
    by Equal is rest there = refl
    by Greater is rest there = ap (λ l. x ∷ l) (rest there)

pub put_again : (n : ℕ) (ks : List ℕ) (more : List ℕ) (is_new : Bool)
    → is_new ≡ not (list_any (is_at (nat_cmp n)) ks) → more ≡ insert_key nat_cmp ks n
    → IsStrictlySortedBy nat_cmp ks
    → cond is_new (remove_key (is_at (nat_cmp n)) more) more ≡ ks
put_again n ks more true added made sorted =
    ap (λ xs. remove_key (is_at (nat_cmp n)) xs) made
    ∙ take_back n ks (by (list_any (is_at (nat_cmp n)) ks) refl)
  where
    by : (b : Bool) → list_any (is_at (nat_cmp n)) ks ≡ b → b ≡ false
    by false is = refl
    by true is = let wrong : true ≡ false = added ∙ ap not is in cc
put_again n ks more false added made sorted =
    made ∙ there_already n ks sorted (by (list_any (is_at (nat_cmp n)) ks) added)
  where
    by : (b : Bool) → false ≡ not b → b ≡ true
    by true is = refl
    by false is = cc

pub marked_so : {E : Type 0} (n : ℕ) (known : AllKnown E) (unsent more : List ℕ)
    (items : List (Reverse ℕ)) (ended room outstanding : ℕ)
    → AreIndices known unsent items ended room outstanding → is_open known n ≡ true
    → ((q : ℕ) → list_any (is_at (nat_cmp q)) more
    ≡ cond (is_at (nat_cmp n) q) true (list_any (is_at (nat_cmp q)) unsent))
    → AreIndices known more items ended room outstanding
marked_so n known unsent more items ended room outstanding i goes now = record {
  in_order = i.in_order;
  listed = i.listed;
  long = i.long;
  counted = i.counted;
  fits = i.fits;
  sendable = λ q there. by q (is_at (nat_cmp n) q) refl (sym (now q) ∙ there);
}
  where
    by : (q : ℕ) (b : Bool) → is_at (nat_cmp n) q ≡ b
        → cond b true (list_any (is_at (nat_cmp q)) unsent) ≡ true → is_open known q ≡ true
    by q true is there = subst (λ k. is_open known k ≡ true) (sym (same_key n q is)) goes
    by q false is there = i.sendable q there

pub unmarked_so : {E : Type 0} (n : ℕ) (known : AllKnown E) (unsent fewer : List ℕ)
    (items : List (Reverse ℕ)) (ended room outstanding : ℕ)
    → AreIndices known unsent items ended room outstanding
    → ((q : ℕ) → list_any (is_at (nat_cmp q)) fewer
    ≡ cond (is_at (nat_cmp n) q) false (list_any (is_at (nat_cmp q)) unsent))
    → AreIndices known fewer items ended room outstanding
unmarked_so n known unsent fewer items ended room outstanding i now = record {
  in_order = i.in_order;
  listed = i.listed;
  long = i.long;
  counted = i.counted;
  fits = i.fits;
  sendable = λ q there. by q (is_at (nat_cmp n) q) (sym (now q) ∙ there);
}
  where
    by : (q : ℕ) (b : Bool) → cond b false (list_any (is_at (nat_cmp q)) unsent) ≡ true
        → is_open known q ≡ true
    by q true there = cc
    by q false there = i.sendable q there

pub renamed_so : {E : Type 0} (n id : ℕ) (known new : AllKnown E) (unsent : List ℕ)
    (items : List (Reverse ℕ)) (ended room outstanding : ℕ) → Ascend known
    → AreIndices known unsent items ended room outstanding → is_open known n ≡ true
    → new ≡ insert_entry nat_cmp known n (Outstanding id) → IsAt n (Some (Outstanding id)) known new
    → AreIndices new unsent items ended room outstanding
renamed_so n id known new unsent items ended room outstanding s i goes made at = record {
  in_order = i.in_order;
  listed = listed_still known new items items i.listed refl
      (still is_ended n (Some (Outstanding id)) known new at
      (sym (not_ended (known_at n known) goes)));
  long = i.long;
  counted =
      let counts = count_put n (Outstanding id) known s in
      let one : unit (is_open known n) ≡ 1 = ap unit goes in
      let had = i.counted in
      let same : count_by is_outstanding (values_of new)
      ≡ count_by is_outstanding (values_of (insert_entry nat_cmp known n (Outstanding id))) =
      ap (λ es. count_by is_outstanding (values_of es)) made in
      omega arith;
  fits = i.fits;
  sendable = λ q there.
      still is_outstanding n (Some (Outstanding id)) known new at (sym goes) q ∙ i.sendable q there;
}

pub marked_back : {E : Type 0} (n : ℕ) (known : AllKnown E) (ks more : List ℕ) (is_new : Bool)
    → cond is_new (remove_key (is_at (nat_cmp n)) more) more ≡ ks
    → cond is_new (after_unmark n (seen known more)) (seen known more) ≡ seen known ks
marked_back n known ks more true same = ap (λ xs. seen known xs) same
marked_back n known ks more false same = ap (λ xs. seen known xs) same
