-- The table and the numbers stay inverse to each other over each change.
use Rattle.std.proofs.Common.{[]}
use Rattle.std.proofs.Common.{◌≡◌, ◌∙◌, ◌<◌, ◌≤◌, ◌+◌, ℕ, Bool, true, false, List, ◌∷◌, Option}
use Rattle.std.proofs.Common.{Some, None, ap, arith, cond, refl, subst, sym}
use Rattle.std.specs.BTreeMap.{insert_entry, is_at}
use Rattle.std.specs.Map.{keys_of, lookup, remove_entry, set_value}
use Rattle.std.specs.List.{list_any}
use Rattle.std.specs.Prelude.{◌||◌}
use Rattle.std.specs.Option.{is_some, option_and_then, option_map, option_map_or}
use Rattle.std.specs.Cmp.{ranked}
use Rattle.std.specs.Ordering.{is_eq, nat_cmp}
use Rattle.std.specs.declared.cmp.Ordering.{Ordering}
use Rattle.std.specs.declared.cmp.Ordering.TheVariants.{Less, Equal, Greater}
use Rattle.std.proofs.lemmas.Map.Keys.{sorted_head, sorted_tail}
use Rattle.stun_agent.proofs.Ascending.{IsAscending-insert, IsAscending-remove}
use Rattle.stun_agent.proofs.Ascending.{IsAscending-set_value}
use Rattle.stun_agent.proofs.Ascending.{lookup-insert_other, lookup-insert_same}
use Rattle.stun_agent.proofs.Ascending.{lookup-remove_other}
use Rattle.stun_agent.proofs.Ascending.{lookup-set_other}
use Rattle.stun_client_requests.specs.Numbers.{IsAt, NumbersSeen, id_at, id_in, known_at}
use Rattle.stun_client_requests.specs.OneTable.{IsOneTable}
use Rattle.stun_client_requests.specs.declared.numbers.Known.{Known}
use Rattle.stun_client_requests.specs.declared.numbers.Known.TheVariants.{Outstanding, Ended}
use Rattle.stun_client_requests.specs.declared.requests.Request.{Request}
use Rattle.stun_client_requests.specs.declared.requests.Polled.TheVariants.{Transmit}
use Rattle.stun_client_requests.specs.Requests.{RequestsSeen, datum_of, ends_or, ends_step, number_at, over}
use Rattle.stun_client_requests.specs.Requests.{over_step, repeated, repeats_or, repeats_step}
use Rattle.stun_client_requests.specs.Requests.{unsent_or}
use Rattle.stun_client_requests.specs.Numbers.{end_of_first, first_unsent}
use Rattle.stun_agent.specs.Agent.{tally_of_end}
use Rattle.stun_agent.specs.Statistics.{request_cancelled, response_received}
use Rattle.stun_agent.specs.Tables.{Attached, IsTable, TableSeen, after_answer, after_cancel}
use Rattle.stun_agent.specs.Tables.{counted}
use Rattle.stun_agent.specs.Tables.{after_end as after_end_in, after_transmission, counted_sent}
use Rattle.stun_agent.specs.Tables.{datum_at, over_in, sent_in, without_request}
use Rattle.stun_agent.specs.Transactions.{Transaction, after_slots, at as transaction_at}
use Rattle.stun_agent.specs.Transactions.{round_trip}
use Rattle.stun_client_requests.proofs.NumberLemmas.{Ascend, apart, lookup_among, own_key, same_key}

-- ---- a list after a change at one number

pub differs : (n q : ℕ) → is_at (nat_cmp n) q ≡ false → is_at (nat_cmp q) n ≡ false
differs n q is = apart q n (λ e. hit (subst (λ k. is_at (nat_cmp n) k ≡ true) (sym e) (own_key n)))
  where
    hit : is_at (nat_cmp n) q ≡ true → ⊥
    hit same = cc

pub at_insert : {X : Type 0} (n : ℕ) (w : X) (es : List (ℕ × X))
    → IsAt n (Some w) es (insert_entry nat_cmp es n w)
at_insert n w es q = by (is_at (nat_cmp n) q) refl
  where
    by : (b : Bool) → is_at (nat_cmp n) q ≡ b
        → lookup (is_at (nat_cmp q)) (insert_entry nat_cmp es n w)
        ≡ cond b (Some w) (lookup (is_at (nat_cmp q)) es)
    by true is =
        subst (λ k. lookup (is_at (nat_cmp k)) (insert_entry nat_cmp es n w) ≡ Some w)
        (sym (same_key n q is)) (lookup-insert_same n w es)
    by false is = lookup-insert_other q n w es (differs n q is)

removed_same : {X : Type 0} (n : ℕ) (es : List (ℕ × X)) → Ascend es
    → lookup (is_at (nat_cmp n)) (remove_entry (is_at (nat_cmp n)) es) ≡ None
removed_same n [] s = refl
removed_same {X} n (e ∷ es) s =
    by (is_at (nat_cmp n) e.0) refl (removed_same n es (sorted_tail nat_cmp e.0 (keys_of es) s))
  where
    gone : is_at (nat_cmp n) e.0 ≡ true → (o : Option X) → lookup (is_at (nat_cmp n)) es ≡ o
        → o ≡ None
    gone hit None is = refl
    gone hit (Some v) is =
        let above : nat_cmp e.0 n ≡ Less =
        lookup_among (λ y. nat_cmp e.0 y ≡ Less) es n v (sorted_head nat_cmp e.0 (keys_of es) s)
        is in
        let own = own_key n in
        let same : is_at (nat_cmp e.0) n ≡ true =
        subst (λ k. is_at (nat_cmp k) n ≡ true) (sym (same_key n e.0 hit)) own in
        let miss : is_at (nat_cmp e.0) n ≡ false = ap is_eq above in
        cc

    by : (b : Bool) → is_at (nat_cmp n) e.0 ≡ b
        → lookup (is_at (nat_cmp n)) (remove_entry (is_at (nat_cmp n)) es) ≡ None
        → lookup (is_at (nat_cmp n)) (cond b es (e ∷ remove_entry (is_at (nat_cmp n)) es)) ≡ None
    by true is rest = gone is (lookup (is_at (nat_cmp n)) es) refl
    by false is rest =
        ap (λ b. cond b (Some e.1)
        (lookup (is_at (nat_cmp n)) (remove_entry (is_at (nat_cmp n)) es))) is
        ∙ rest

pub at_remove : {X : Type 0} (n : ℕ) (es : List (ℕ × X)) → Ascend es
    → IsAt n None es (remove_entry (is_at (nat_cmp n)) es)
at_remove n es s q = by (is_at (nat_cmp n) q) refl
  where
    by : (b : Bool) → is_at (nat_cmp n) q ≡ b
        → lookup (is_at (nat_cmp q)) (remove_entry (is_at (nat_cmp n)) es)
        ≡ cond b None (lookup (is_at (nat_cmp q)) es)
    by true is =
        subst (λ k. lookup (is_at (nat_cmp k)) (remove_entry (is_at (nat_cmp n)) es) ≡ None)
        (sym (same_key n q is)) (removed_same n es s)
    by false is = lookup-remove_other q n es (differs n q is)

pub set_same : {X : Type 0} (n : ℕ) (x w : X) (es : List (ℕ × X))
    → lookup (is_at (nat_cmp n)) es ≡ Some x
    → lookup (is_at (nat_cmp n)) (set_value (is_at (nat_cmp n)) es w) ≡ Some w
set_same n x w [] there = cc
set_same {X} n x w (e ∷ es) there = by (is_at (nat_cmp n) e.0) refl there (set_same n x w es)
  where
    by : (b : Bool) → is_at (nat_cmp n) e.0 ≡ b
        → cond b (Some e.1) (lookup (is_at (nat_cmp n)) es) ≡ Some x
        → (lookup (is_at (nat_cmp n)) es ≡ Some x
        → lookup (is_at (nat_cmp n)) (set_value (is_at (nat_cmp n)) es w) ≡ Some w)
        → lookup (is_at (nat_cmp n))
        (cond b ((e.0, w) ∷ es) (e ∷ set_value (is_at (nat_cmp n)) es w)) ≡ Some w
    by true is there rest = ap (λ b. cond b (Some w) (lookup (is_at (nat_cmp n)) es)) is
    by false is there rest =
        ap (λ b. cond b (Some e.1)
        (lookup (is_at (nat_cmp n)) (set_value (is_at (nat_cmp n)) es w))) is
        ∙ rest there

-- ---- two inverse functions

-- what the first finds, the second finds back
abbrev pub Into : (ℕ → Option ℕ) → (ℕ → Option ℕ) → Type 0
Into f g = (x y : ℕ) → f x ≡ Some y → g y ≡ Some x

-- the second is the first, but for one place
abbrev pub Changed : ℕ → Option ℕ → (ℕ → Option ℕ) → (ℕ → Option ℕ) → Type 0
Changed a w f h = (q : ℕ) → h q ≡ cond (is_at (nat_cmp a) q) w (f q)

same_some : (x y : ℕ) → Some x ≡ Some y → x ≡ y
same_some x y same = cc

pub put_in : (f f' g g' : ℕ → Option ℕ) (a b : ℕ) → Into f g → Changed a (Some b) f f'
    → Changed b (Some a) g g' → g b ≡ None → Into f' g'
put_in f f' g g' a b into here there none x y found =
    by (is_at (nat_cmp a) x) refl (sym (here x) ∙ found)
  where
    by : (c : Bool) → is_at (nat_cmp a) x ≡ c → cond c (Some b) (f x) ≡ Some y → g' y ≡ Some x
    by true is found =
        let same : b ≡ y = same_some b y found in
        subst (λ k. g' k ≡ Some x) same
        (there b ∙ ap (λ c. cond c (Some a) (g b)) (own_key b) ∙ ap Some (sym (same_key a x is)))
    by false is found = at (is_at (nat_cmp b) y) refl
      where
        at : (c : Bool) → is_at (nat_cmp b) y ≡ c → g' y ≡ Some x
        at true hit =
            let back = into x y found in
            let same : y ≡ b = same_key b y hit in
            let wrong : g y ≡ None = ap g same ∙ none in
            cc
        at false hit = there y ∙ ap (λ c. cond c (Some a) (g y)) hit ∙ into x y found

pub out_of : (f f' g g' : ℕ → Option ℕ) (a b : ℕ) → Into f g → Changed a None f f'
    → Changed b None g g' → g b ≡ Some a → Into f' g'
out_of f f' g g' a b into here there some x y found =
    by (is_at (nat_cmp a) x) refl (sym (here x) ∙ found)
  where
    by : (c : Bool) → is_at (nat_cmp a) x ≡ c → cond c None (f x) ≡ Some y → g' y ≡ Some x
    by true is found = cc
    by false is found = at (is_at (nat_cmp b) y) refl
      where
        at : (c : Bool) → is_at (nat_cmp b) y ≡ c → g' y ≡ Some x
        at true hit =
            let back : g y ≡ Some x = into x y found in
            let same : y ≡ b = same_key b y hit in
            let so : g y ≡ Some a = ap g same ∙ some in
            let one : x ≡ a = same_some x a (sym back ∙ so) in
            let own : is_at (nat_cmp a) x ≡ true =
            subst (λ k. is_at (nat_cmp a) k ≡ true) (sym one) (own_key a) in
            cc
        at false hit = there y ∙ ap (λ c. cond c None (g y)) hit ∙ into x y found

-- ---- the two functions of the requests

pub numbers_changed : {D : Type 0} (id : ℕ) (w : Option (Request D)) (all new : Attached (Request
    D))
    → IsAt id w all new
    → Changed id (option_map (λ r. r.number) w) (λ i. number_at i all) (λ i. number_at i new)
numbers_changed {D} id w all new at q =
    ap (λ o. option_map (λ r. r.number) o) (at q) ∙ by (is_at (nat_cmp id) q)
  where
    by : (b : Bool) → option_map (λ r. r.number) (cond b w (datum_at q all))
        ≡ cond b (option_map (λ r. r.number) w) (number_at q all)
    by true = refl
    by false = refl

pub ids_changed : {E : Type 0} (n : ℕ) (w : Option (Known E)) (old new : NumbersSeen E)
    → IsAt n w old.known new.known
    → Changed n (option_and_then id_in w) (λ m. id_at m old) (λ m. id_at m new)
ids_changed n w old new at q =
    ap (λ o. option_and_then id_in o) (at q) ∙ by (is_at (nat_cmp n) q)
  where
    by : (b : Bool) → option_and_then id_in (cond b w (known_at q old.known))
        ≡ cond b (option_and_then id_in w) (id_at q old)
    by true = refl
    by false = refl

-- the numbers that were free stay so
fresh_still : {E : Type 0} (n next later : ℕ) (w : Option (Known E)) (old new : NumbersSeen E)
    → IsAt n w old.known new.known → n < later → next ≤ later
    → ((m : ℕ) → next ≤ m → known_at m old.known ≡ None)
    → (m : ℕ) → later ≤ m → known_at m new.known ≡ None
fresh_still n next later w old new at low up free m high =
    at m
    ∙ ap (λ b. cond b w (known_at m old.known)) (apart n m (λ e. wrong e))
    ∙ free m (omega arith)
  where
    wrong : n ≡ m → ⊥
    wrong e = absurd (omega arith)

-- an outstanding request has a number below the next one
below_next : {E : Type 0} (n id next : ℕ) (numbers : NumbersSeen E)
    → ((m : ℕ) → next ≤ m → known_at m numbers.known ≡ None) → id_at n numbers ≡ Some id → n < next
below_next n id next numbers free out = by (nat_cmp n next) refl
  where
    none : next ≤ n → ⊥
    none high =
        let gone : id_at n numbers ≡ None = ap (λ o. option_and_then id_in o) (free n high) in cc

    by : (r : Ordering) → nat_cmp n next ≡ r → n < next
    by Less is = ranked n next Less (sym is)
    by Equal is = let same : n ≡ next = ranked n next Equal (sym is) in absurd (none (omega arith))
    by Greater is =
        let high : next < n = ranked n next Greater (sym is) in absurd (none (omega arith))

-- ---- all of it, after each change

pub one_started : {D E : Type 0} (all new : Attached (Request D)) (old now : NumbersSeen E)
    (next id : ℕ) (r : Request D) → IsOneTable all old next → r.number ≡ next
    → number_at id all ≡ None → new ≡ insert_entry nat_cmp all id r
    → IsAt next (Some (Outstanding id)) old.known now.known → IsOneTable new now (next + 1)
one_started all new old now next id r i number none made at = record {
  in_order = subst (λ es. Ascend es) (sym made) (IsAscending-insert all id r i.in_order);
  named = put_in (λ k. number_at k all) (λ k. number_at k new) (λ m. id_at m old) (λ m. id_at m now)
      id next i.named here (ids_changed next (Some (Outstanding id)) old now at) free;
  timed = put_in (λ m. id_at m old) (λ m. id_at m now) (λ k. number_at k all) (λ k. number_at k new)
      next id i.timed (ids_changed next (Some (Outstanding id)) old now at) here none;
  fresh = fresh_still next next (next + 1) (Some (Outstanding id)) old now at (omega arith)
      (omega arith) i.fresh;
}
  where
    free : id_at next old ≡ None
    free = ap (λ o. option_and_then id_in o) (i.fresh next (omega arith))

    here : Changed id (Some next) (λ k. number_at k all) (λ k. number_at k new)
    here =
        subst (λ es. Changed id (Some next) (λ k. number_at k all) (λ k. number_at k es)) (sym made)
        (subst (λ n. Changed id (Some n) (λ k. number_at k all)
        (λ k. number_at k (insert_entry nat_cmp all id r))) number
        (numbers_changed id (Some r) all (insert_entry nat_cmp all id r) (at_insert id r all)))

-- a request is outstanding no more: nothing is known of it, or its end
pub one_out : {D E : Type 0} (all new : Attached (Request D)) (old now : NumbersSeen E)
    (next id n : ℕ) (w : Option (Known E)) → IsOneTable all old next → id_at n old ≡ Some id
    → new ≡ remove_entry (is_at (nat_cmp id)) all → option_and_then id_in w ≡ None
    → IsAt n w old.known now.known → IsOneTable new now next
one_out all new old now next id n w i out made shut at = record {
  in_order = subst (λ es. Ascend es) (sym made) (IsAscending-remove (is_at (nat_cmp id)) all
      i.in_order);
  named = out_of (λ k. number_at k all) (λ k. number_at k new) (λ m. id_at m old) (λ m. id_at m now)
      id n i.named here there out;
  timed = out_of (λ m. id_at m old) (λ m. id_at m now) (λ k. number_at k all) (λ k. number_at k new)
      n id i.timed there here (i.timed n id out);
  fresh = fresh_still n next next w old now at (below_next n id next old i.fresh out) (omega arith)
      i.fresh;
}
  where
    here : Changed id None (λ k. number_at k all) (λ k. number_at k new)
    here =
        subst (λ es. Changed id None (λ k. number_at k all) (λ k. number_at k es)) (sym made)
        (numbers_changed id None all (remove_entry (is_at (nat_cmp id)) all)
        (at_remove id all i.in_order))

    there : Changed n None (λ m. id_at m old) (λ m. id_at m now)
    there =
        subst (λ o. Changed n o (λ m. id_at m old) (λ m. id_at m now)) shut
        (ids_changed n w old now at)

-- a request has another datum
pub one_replaced : {D E : Type 0} (all new : Attached (Request D)) (old : NumbersSeen E)
    (next id n : ℕ) (r : Request D) → IsOneTable all old next → id_at n old ≡ Some id → r.number ≡ n
    → new ≡ set_value (is_at (nat_cmp id)) all r → IsOneTable new old next
one_replaced {D} all new old next id n r i out number made = record {
  in_order = subst (λ es. Ascend es) (sym made)
      (IsAscending-set_value (is_at (nat_cmp id)) all r i.in_order);
  named = λ k m found. i.named k m (sym (same k) ∙ found);
  timed = λ m k found. same k ∙ i.timed m k found;
  fresh = i.fresh;
}
  where
    there : number_at id all ≡ Some n
    there = i.timed n id out

    here : (o : Option (Request D)) → datum_at id all ≡ o → option_map (λ q. q.number) o ≡ Some n
        → number_at id (set_value (is_at (nat_cmp id)) all r) ≡ Some n
    here None is found = cc
    here (Some q) is found =
        ap (λ o. option_map (λ q. q.number) o) (set_same id q r all is) ∙ ap Some number

    kept : (k : ℕ) (b : Bool) → is_at (nat_cmp id) k ≡ b
        → number_at k (set_value (is_at (nat_cmp id)) all r) ≡ number_at k all
    kept k true is =
        subst (λ j. number_at j (set_value (is_at (nat_cmp id)) all r) ≡ number_at j all)
        (sym (same_key id k is)) (here (datum_at id all) refl there ∙ sym there)
    kept k false is =
        ap (λ o. option_map (λ q. q.number) o) (lookup-set_other k id r all (differs id k is))

    same : (k : ℕ) → number_at k new ≡ number_at k all
    same k = ap (λ es. number_at k es) made ∙ kept k (is_at (nat_cmp id) k) refl

-- an end is handed out
pub one_handed_out : {D E : Type 0} (all : Attached (Request D)) (old now : NumbersSeen E)
    (next n : ℕ) (end : E) → IsOneTable all old next → known_at n old.known ≡ Some (Ended end)
    → IsAt n None old.known now.known → IsOneTable all now next
one_handed_out {D} {E} all old now next n end i there at = record {
  in_order = i.in_order;
  named = λ k m found. same m ∙ i.named k m found;
  timed = λ m k found. i.timed m k (sym (same m) ∙ found);
  fresh = fresh_still n next next None old now at (low (nat_cmp n next) refl) (omega arith) i.fresh;
}
  where
    none : next ≤ n → ⊥
    none high = let gone = i.fresh n high in cc

    low : (r : Ordering) → nat_cmp n next ≡ r → n < next
    low Less is = ranked n next Less (sym is)
    low Equal is = let same : n ≡ next = ranked n next Equal (sym is) in absurd (none (omega arith))
    low Greater is =
        let high : next < n = ranked n next Greater (sym is) in absurd (none (omega arith))

    shut : id_at n old ≡ None
    shut = ap (λ o. option_and_then id_in o) there

    by : (m : ℕ) (b : Bool) → is_at (nat_cmp n) m ≡ b → cond b None (id_at m old) ≡ id_at m old
    by m true is = sym (subst (λ k. id_at k old ≡ None) (sym (same_key n m is)) shut)
    by m false is = refl

    same : (m : ℕ) → id_at m now ≡ id_at m old
    same m = ids_changed n None old now at m ∙ by m (is_at (nat_cmp n) m) refl

-- ---- what the table has after its calls

pub attached_answer : {D : Type 0} (t : TableSeen D) (id count : ℕ) (moment : Option ℕ)
    (b : List ℕ) → Some b ≡ option_map (λ x. x.bytes) (transaction_at id t.requests)
    → (after_answer id count moment t).attached ≡ remove_entry (is_at (nat_cmp id)) t.attached
attached_answer t id count moment b some = by (transaction_at id t.requests) some
  where
    by : (o : Option Transaction) → Some b ≡ option_map (λ x. x.bytes) o
        → (option_map_or
        (λ x. counted (response_received count (round_trip moment x)) (without_request id t)) o
        t).attached ≡ remove_entry (is_at (nat_cmp id)) t.attached
    by None some = cc
    by (Some x) some = refl

pub attached_cancel : {D : Type 0} (t : TableSeen D) (id : ℕ) (b : List ℕ)
    → Some b ≡ option_map (λ x. x.bytes) (transaction_at id t.requests)
    → (after_cancel id t).attached ≡ remove_entry (is_at (nat_cmp id)) t.attached
attached_cancel t id b some = by (transaction_at id t.requests) some
  where
    by : (o : Option Transaction) → Some b ≡ option_map (λ x. x.bytes) o
        → (option_map_or (λ x. counted request_cancelled (without_request id t)) o t).attached
        ≡ remove_entry (is_at (nat_cmp id)) t.attached
    by None some = cc
    by (Some x) some = refl

pub attached_over : {D : Type 0} (t : TableSeen D) (now id : ℕ)
    → option_map (λ o. o.0) (over_in now t) ≡ Some id
    → (after_end_in now t).attached ≡ remove_entry (is_at (nat_cmp id)) t.attached
attached_over t now id some = by (over_in now t) some
  where
    by : (o : Option (ℕ × Transaction)) → option_map (λ e. e.0) o ≡ Some id
        → (option_map_or (λ e. counted (tally_of_end e.1) (without_request e.0 t)) o t).attached
        ≡ remove_entry (is_at (nat_cmp id)) t.attached
    by None some = cc
    by (Some e) some =
        ap (λ k. remove_entry (is_at (nat_cmp k)) t.attached) (same_some e.0 id some)

pub attached_sent : {D : Type 0} (t : TableSeen D) (now : ℕ)
    → (after_transmission now t).attached ≡ t.attached
attached_sent t now = by (sent_in now t)
  where
    by : (o : Option (ℕ × Transaction)) → (counted_sent o (record t {
      requests = after_slots t.transport now (option_map (λ e. e.0) (sent_in now t)) t.requests;
    })).attached ≡ t.attached
    by None = refl
    by (Some e) = refl

pub nothing_over : {D : Type 0} (t : TableSeen D) (now : ℕ) → over_in now t ≡ None
    → after_end_in now t ≡ t
nothing_over t now none =
    ap (λ o. option_map_or (λ e. counted (tally_of_end e.1) (without_request e.0 t)) o t) none

pub none_over : {D : Type 0} (t : TableSeen (Request D)) (now : ℕ) → over_in now t ≡ None
    → over now t ≡ None
none_over t now none = ap (λ o. option_and_then (λ e. datum_at e.0 t.attached) o) none

pub some_over : {D : Type 0} (t : TableSeen (Request D)) (now id : ℕ) (q : Request D)
    → option_map (λ o. o.0) (over_in now t) ≡ Some id → datum_at id t.attached ≡ Some q
    → over now t ≡ Some q
some_over {D} t now id q some there = by (over_in now t) some
  where
    by : (o : Option (ℕ × Transaction)) → option_map (λ e. e.0) o ≡ Some id
        → option_and_then (λ e. datum_at e.0 t.attached) o ≡ Some q
    by None some = cc
    by (Some e) some = ap (λ k. datum_at k t.attached) (same_some e.0 id some) ∙ there

-- a table that has no request with an ID has no datum at it
some_is_any : {X : Type 0} (p : ℕ → Bool) (es : List (ℕ × X))
    → is_some (lookup p es) ≡ list_any p (keys_of es)
some_is_any p [] = refl
some_is_any {X} p (e ∷ es) = by (p e.0) (some_is_any p es)
  where
    by : (b : Bool) → is_some (lookup p es) ≡ list_any p (keys_of es)
        → is_some (cond b (Some e.1) (lookup p es)) ≡ (b || list_any p (keys_of es))
    by true rest = refl
    by false rest = rest

pub no_number : {D : Type 0} (t : TableSeen (Request D)) (id : ℕ) → IsTable t
    → false ≡ is_some (transaction_at id t.requests) → number_at id t.attached ≡ None
no_number {D} t id table none =
    ap (λ o. option_map (λ q. q.number) o) (by (datum_at id t.attached)
    (some_is_any (is_at (nat_cmp id)) t.attached
    ∙ ap (λ ks. list_any (is_at (nat_cmp id)) ks) table.same
    ∙ sym (some_is_any (is_at (nat_cmp id)) t.requests) ∙ sym none))
  where
    by : (o : Option (Request D)) → is_some o ≡ false → o ≡ None
    by None is = refl
    by (Some q) is = cc

-- a table that has a request with an ID has its datum
pub some_number : {D : Type 0} (t : TableSeen (Request D)) (id : ℕ) → IsTable t
    → is_some (transaction_at id t.requests) ≡ true → is_some (number_at id t.attached) ≡ true
some_number {D} t id table some =
    by (datum_at id t.attached)
    (some_is_any (is_at (nat_cmp id)) t.attached
    ∙ ap (λ ks. list_any (is_at (nat_cmp id)) ks) table.same
    ∙ sym (some_is_any (is_at (nat_cmp id)) t.requests) ∙ some)
  where
    by : (o : Option (Request D)) → is_some o ≡ true
        → is_some (option_map (λ (q : Request D). q.number) o) ≡ true
    by None is = cc
    by (Some q) is = refl

-- ---- what a poll returns

pub ends_none : {D E : Type 0} (now : ℕ) (r : RequestsSeen D E) → None ≡ end_of_first r.numbers
    → over_step now r ≡ ends_step now r
ends_none now r none = ap (λ o. ends_or now r o) none

abbrev pub sent_after : {D E : Type 0} → ℕ → RequestsSeen D E → RequestsSeen D E
sent_after now r = record r { table = after_transmission now r.table }

pub repeats_some : {D E : Type 0} (now n : ℕ) (r : RequestsSeen D E) → Some n ≡ repeated now r.table
    → (Transmit n, sent_after now r) ≡ repeats_step now r
repeats_some now n r some = ap (λ o. repeats_or now (sent_after now r) o) some

pub repeats_none : {D E : Type 0} (now : ℕ) (r : RequestsSeen D E) → None ≡ repeated now r.table
    → ends_step now (sent_after now r) ≡ repeats_step now r
repeats_none now r none = ap (λ o. repeats_or now (sent_after now r) o) none

pub unsent_first : {D E : Type 0} (now : ℕ) (r : RequestsSeen D E) → None ≡ first_unsent r.numbers
    → repeats_step now r ≡ unsent_or now r (first_unsent r.numbers)
unsent_first now r none = ap (λ o. unsent_or now r o) none

abbrev pub with_numbers : {D E : Type 0} → RequestsSeen D E → NumbersSeen E → RequestsSeen D E
with_numbers r s = record r { numbers = s }

abbrev pub with_table : {D E : Type 0} → RequestsSeen D E → TableSeen (Request D) → RequestsSeen D E
with_table r t = record r { table = t }

abbrev pub all_of : {D E : Type 0} → TableSeen (Request D) → NumbersSeen E → ℕ → RequestsSeen D E
all_of table numbers next = record { table = table; numbers = numbers; next = next }

-- ---- another message

-- a request has another transaction ID in place of its former one
pub one_again : {D E : Type 0} (all sent new : Attached (Request D)) (old now : NumbersSeen E)
    (next id former n : ℕ) (r : Request D) → IsOneTable all old next → id_at n old ≡ Some former
    → number_at id all ≡ None → r.number ≡ n → sent ≡ insert_entry nat_cmp all id r
    → new ≡ remove_entry (is_at (nat_cmp former)) sent
    → IsAt n (Some (Outstanding id)) old.known now.known → IsOneTable new now next
one_again {D} {E} all sent new old now next id former n r i out none number made gone at = record {
  in_order = subst (λ es. Ascend es) (sym gone)
      (IsAscending-remove (is_at (nat_cmp former)) sent in_order);
  named = put_in f1 f2 g1 g2 id n (out_of f f1 g g1 former n i.named f_out g_out out) f_in g_in
      (ap (λ b. cond b None (g n)) (own_key n));
  timed = put_in g1 g2 f1 f2 n id (out_of g g1 f f1 n former i.timed g_out f_out there) g_in f_in
      (by_former (is_at (nat_cmp former) id));
  fresh = fresh_still n next next (Some (Outstanding id)) old now at
      (below_next n former next old i.fresh out) (omega arith) i.fresh;
}
  where
    f : ℕ → Option ℕ
    f = λ k. number_at k all

    f1 : ℕ → Option ℕ
    f1 = λ k. cond (is_at (nat_cmp former) k) None (number_at k all)

    f2 : ℕ → Option ℕ
    f2 = λ k. number_at k new

    g : ℕ → Option ℕ
    g = λ m. id_at m old

    g1 : ℕ → Option ℕ
    g1 = λ m. cond (is_at (nat_cmp n) m) None (id_at m old)

    g2 : ℕ → Option ℕ
    g2 = λ m. id_at m now

    there : number_at former all ≡ Some n
    there = i.timed n former out

    in_order : Ascend sent
    in_order = subst (λ es. Ascend es) (sym made) (IsAscending-insert all id r i.in_order)

    f_out : Changed former None f f1
    f_out q = refl

    g_out : Changed n None g g1
    g_out m = refl

    by_former : (b : Bool) → cond b None (number_at id all) ≡ None
    by_former true = refl
    by_former false = none

    apart_ids : is_at (nat_cmp former) id ≡ false
    apart_ids = apart former id (λ same. wrong same)
      where
        wrong : former ≡ id → ⊥
        wrong same = let found = there in let missing : number_at former all ≡ None =
            subst (λ k. number_at k all ≡ None) (sym same) none in cc

    g_in : Changed n (Some id) g1 g2
    g_in m = ids_changed n (Some (Outstanding id)) old now at m ∙ by (is_at (nat_cmp n) m) refl
      where
        by : (b : Bool) → is_at (nat_cmp n) m ≡ b → cond b (Some id) (id_at m old)
            ≡ cond b (Some id) (cond (is_at (nat_cmp n) m) None (id_at m old))
        by true is = refl
        by false is = sym (ap (λ b. cond b None (id_at m old)) is)

    sent_at : (q : ℕ) → number_at q sent ≡ cond (is_at (nat_cmp id) q) (Some n) (number_at q all)
    sent_at q =
        ap (λ es. number_at q es) made
        ∙ numbers_changed id (Some r) all (insert_entry nat_cmp all id r) (at_insert id r all) q
        ∙ ap (λ k. cond (is_at (nat_cmp id) q) (Some k) (number_at q all)) number

    new_at : (q : ℕ) → number_at q new ≡ cond (is_at (nat_cmp former) q) None (number_at q sent)
    new_at q =
        ap (λ es. number_at q es) gone
        ∙ numbers_changed former None sent (remove_entry (is_at (nat_cmp former)) sent)
        (at_remove former sent in_order) q

    f_in : Changed id (Some n) f1 f2
    f_in q =
        new_at q ∙ ap (λ o. cond (is_at (nat_cmp former) q) None o) (sent_at q)
        ∙ by (is_at (nat_cmp former) q) (is_at (nat_cmp id) q) refl refl
      where
        by : (b c : Bool) → is_at (nat_cmp former) q ≡ b → is_at (nat_cmp id) q ≡ c
            → cond b None (cond c (Some n) (number_at q all))
            ≡ cond c (Some n) (cond b None (number_at q all))
        by true true is here =
            let same : is_at (nat_cmp former) id ≡ true =
            subst (λ k. is_at (nat_cmp former) k ≡ true) (same_key id q here) is in
            let miss = apart_ids in
            cc
        by true false is here = refl
        by false true is here = refl
        by false false is here = refl

-- the former message is still in the table
pub former_there : {D : Type 0} (all sent : Attached (Request D)) (id former n : ℕ) (r : Request D)
    → number_at former all ≡ Some n → number_at id all ≡ None
    → sent ≡ insert_entry nat_cmp all id r → datum_at former sent ≡ datum_at former all
former_there all sent id former n r there none made =
    ap (λ es. datum_at former es) made ∙ lookup-insert_other former id r all
    (apart former id (λ same. wrong same))
  where
    wrong : former ≡ id → ⊥
    wrong same =
        let missing : number_at former all ≡ None =
        subst (λ k. number_at k all ≡ None) (sym same) none in
        let found = there in
        cc

pub former_kept : {D : Type 0} (all sent : Attached (Request D)) (id former n : ℕ) (r : Request D)
    → number_at former all ≡ Some n → number_at id all ≡ None
    → sent ≡ insert_entry nat_cmp all id r → None ≡ datum_at former sent → ⊥
former_kept all sent id former n r there none made lost =
    let missing : number_at former all ≡ None =
    ap (λ o. option_map (λ q. q.number) o)
    (sym (former_there all sent id former n r there none made) ∙ sym lost) in
    let found = there in
    cc

pub former_datum : {D E : Type 0} (s : RequestsSeen D E) (n former : ℕ) (q : Request D)
    → id_at n s.numbers ≡ Some former → datum_at former s.table.attached ≡ Some q
    → datum_of n s ≡ Some q.datum
former_datum s n former q out there =
    ap (λ o. option_map (λ x. x.datum) (option_and_then (λ id. datum_at id s.table.attached) o)) out
    ∙ ap (λ o. option_map (λ x. x.datum) o) there
