-- Due timeouts pass up to the request that is sent, and in its part of the requests alone.
use Rattle.std.proofs.Common.{ℕ, ◌≡◌, ◌-◌, ◌<◌, arith, Bool, true, false, ◌&&◌, cond}
use Rattle.std.proofs.Common.{List, [], ◌∷◌, ◌++◌, subst, ap, ap₂, sym, refl, ◌∙◌}
use Rattle.std.specs.Prelude.{Option, Some, None, find, nat_le}
use Rattle.std.specs.Option.{option_map, option_map_or, is_some}
use Rattle.std.specs.List.{AllByRecursion}
use Rattle.std.proofs.lemmas.Bool.{le-leb, lt-leb}
use Rattle.std.proofs.lemmas.List.{map-append}
use Rattle.stun_types.proofs.ReachedLemmas.{weaker}
use Rattle.stun_base.specs.declared.wire.transport.TransportType.{TransportType}
use Rattle.stun_agent.specs.declared.state.tree.Fork.{Fork}
use Rattle.stun_agent.specs.Transactions.{Transaction, Transactions, repeats, is_due}
use Rattle.stun_agent.specs.Transactions.{next_sent, after_slot, slot_passed, after_slots}
use Rattle.stun_agent.specs.code.Awaited.{awaited_of, some_due}
use Rattle.stun_agent.specs.code.Tree.{items, fork_items, IsOrderedFork}
use Rattle.stun_agent.proofs.AwaitedLemmas.{due_is, none_first}
use Rattle.stun_agent.proofs.FoundLemmas.{none_is, found_first, found_second}
use Rattle.stun_agent.proofs.HalvesLemmas.{AreLater, AreSooner, AreApart}
use Rattle.stun_agent.proofs.TreeLemmas.{first_apart, second_apart, third_apart}

-- ---- nothing is due
none_of_both : {X : Type 0} (p q : X → Bool) (xs : List X) → is_some (find p xs) ≡ false
    → find (λ x. p x && q x) xs ≡ None
none_of_both p q [] h = refl
none_of_both p q (x ∷ xs) h =
    let parts = none_first p x xs h in
    ap (λ b. cond (b && q x) (Some x) (find (λ y. p y && q y) xs)) parts.0
    ∙ none_of_both p q xs parts.1

pub none_due-next : (transport : TransportType) (now : ℕ) (es : Transactions)
    → some_due now (awaited_of transport es) ≡ false → next_sent transport now es ≡ None
none_due-next transport now es h =
    none_of_both (λ (e : ℕ × Transaction). is_due transport now e.1)
    (λ (e : ℕ × Transaction). repeats e.1.sending) es (sym (due_is transport now es) ∙ h)

none_pass : (transport : TransportType) (now : ℕ) (es : Transactions)
    → is_some (find (λ e. is_due transport now e.1) es) ≡ false
    → after_slots transport now None es ≡ es
none_pass transport now [] h = refl
none_pass transport now (e ∷ es) h =
    let parts = none_first (λ (x : ℕ × Transaction). is_due transport now x.1) e es h in
    let here : cond (is_due transport now e.1) (after_slot now e.1) e.1 ≡ e.1 =
    ap (λ b. cond b (after_slot now e.1) e.1) parts.0 in
    let rest = none_pass transport now es parts.1 in
    λ i. (e.0, here i) ∷ rest i

-- ---- what is found
-- what holds of each holds of the one that is found
pub found_all : {X : Type 0} (P : X → Type 0) (p : X → Bool) (xs : List X) (x : X)
    → AllByRecursion P xs → find p xs ≡ Some x → P x
found_all P p [] x a h = cc
found_all {X} P p (y ∷ ys) x a h = by (p y) h (found_all P p ys x a.1)
  where
    by : (b : Bool) → cond b (Some y) (find p ys) ≡ Some x → (find p ys ≡ Some x → P x) → P x
    by true h rest = let same : y ≡ x = ap (λ o. option_map_or (λ z. z) o y) h in subst P same a.0
    by false h rest = rest h

-- ---- these, and those of later ids
after_slots-append : (transport : TransportType) (now : ℕ) (sent : Option ℕ)
    (xs ys : Transactions) → after_slots transport now sent (xs ++ ys)
    ≡ after_slots transport now sent xs ++ after_slots transport now sent ys
after_slots-append transport now sent xs ys =
    map-append {B = ℕ × Transaction} (λ e. (e.0, slot_passed transport now sent e)) xs ys

-- none of those past the one that is sent
past_sent : (transport : TransportType) (now n : ℕ) (ys : Transactions)
    → AllByRecursion (λ (y : ℕ × Transaction). n < y.0) ys
    → after_slots transport now (Some n) ys ≡ ys
past_sent transport now n [] a = refl
past_sent transport now n (y ∷ ys) a =
    let here : cond (nat_le y.0 n && is_due transport now y.1) (after_slot now y.1) y.1 ≡ y.1 =
    ap (λ b. cond (b && is_due transport now y.1) (after_slot now y.1) y.1) (lt-leb y.0 n a.0) in
    let rest = past_sent transport now n ys a.1 in
    λ i. (y.0, here i) ∷ rest i

-- all of those before it
before_sent : (transport : TransportType) (now n : ℕ) (xs : Transactions) → AreSooner n xs
    → after_slots transport now (Some n) xs ≡ after_slots transport now None xs
before_sent transport now n [] a = refl
before_sent transport now n (x ∷ xs) a =
    let less : x.0 < n = a.0 in
    let reached : nat_le x.0 n ≡ true = le-leb x.0 n (omega (arith, less)) in
    let here = ap (λ b. cond (b && is_due transport now x.1) (after_slot now x.1) x.1) reached in
    let rest = before_sent transport now n xs a.1 in
    λ i. (x.0, here i) ∷ rest i

-- ---- a part of the requests, and then perhaps the other
-- one that is due, and is retransmitted
abbrev pub sends : TransportType → ℕ → ℕ × Transaction → Bool
sends transport now e = is_due transport now e.1 && repeats e.1.sending

-- all of them, once the due timeouts have passed up to the one that is sent
abbrev pub passed : TransportType → ℕ → Transactions → Transactions
passed transport now es =
    after_slots transport now (option_map (λ e. e.0) (next_sent transport now es)) es

-- where none is due, none passes
pub passed_none : (transport : TransportType) (now : ℕ) (es : Transactions)
    → some_due now (awaited_of transport es) ≡ false → es ≡ passed transport now es
passed_none transport now es none =
    sym (ap (λ o. after_slots transport now (option_map (λ (x : ℕ × Transaction). x.0) o) es)
    (none_due-next transport now es none)
    ∙ none_pass transport now es (sym (due_is transport now es) ∙ none))

module _ (transport : TransportType) (now : ℕ) (xs ys : Transactions) (apart : AreApart xs ys) where
  pub passed_first : (first : Transactions) → is_some (next_sent transport now xs) ≡ true
      → first ≡ passed transport now xs → first ++ ys ≡ passed transport now (xs ++ ys)
  passed_first first some is =
      ap (λ es. es ++ ys) is ∙ by (next_sent transport now xs) refl some
      ∙ ap (λ o. after_slots transport now (option_map (λ (x : ℕ × Transaction). x.0) o) (xs ++ ys))
      (found_first (sends transport now) xs ys some)
    where
      by : (o : Option (ℕ × Transaction)) → next_sent transport now xs ≡ o → is_some o ≡ true
          → after_slots transport now (option_map (λ x. x.0) o) xs ++ ys
          ≡ after_slots transport now (option_map (λ x. x.0) o) (xs ++ ys)
      by None h some = cc
      by (Some e) h some =
          let later : AreLater e.0 ys =
          found_all (λ (x : ℕ × Transaction). AreLater x.0 ys) (sends transport now) xs e apart h in
          sym (after_slots-append transport now (Some e.0) xs ys
          ∙ ap (λ l. after_slots transport now (Some e.0) xs ++ l)
          (past_sent transport now e.0 ys later))

  pub passed_second : (first second : Transactions) → is_some (next_sent transport now xs) ≡ false
      → first ≡ passed transport now xs → second ≡ passed transport now ys
      → first ++ second ≡ passed transport now (xs ++ ys)
  passed_second first second none is more =
      ap₂ (λ k l. k ++ l)
      (is ∙ ap (λ o. after_slots transport now (option_map (λ (x : ℕ × Transaction). x.0) o) xs)
      (none_is (next_sent transport now xs) none)) more
      ∙ by (next_sent transport now ys) refl
      ∙ ap (λ o. after_slots transport now (option_map (λ (x : ℕ × Transaction). x.0) o) (xs ++ ys))
      (found_second (sends transport now) xs ys none)
    where
      by : (o : Option (ℕ × Transaction)) → next_sent transport now ys ≡ o
          → after_slots transport now None xs
          ++ after_slots transport now (option_map (λ x. x.0) o) ys
          ≡ after_slots transport now (option_map (λ x. x.0) o) (xs ++ ys)
      by None h = sym (after_slots-append transport now None xs ys)
      by (Some e) h =
          let sooner : AreSooner e.0 xs =
          weaker _ _ xs (λ (x : ℕ × Transaction) later.
          found_all (λ (y : ℕ × Transaction). x.0 < y.0) (sends transport now) ys e later h)
          apart in
          sym (after_slots-append transport now (Some e.0) xs ys
          ∙ ap (λ l. l ++ after_slots transport now (Some e.0) ys)
          (before_sent transport now e.0 xs sooner))

-- the slots pass link by link, up to the one that has the request that is sent
module _ {A D : Type 0} (transport : TransportType) (now levels part : ℕ) (fork : Fork A D)
    (h : IsOrderedFork levels part fork) (a : Transactions)
    (is_a : a ≡ passed transport now (items fork.first)) where
  apart_first : AreApart (items fork.first)
      (items fork.second ++ (items fork.third ++ items fork.fourth))
  apart_first = first_apart (levels - 1) part _ _ _ _ h.0 h.1 h.2 h.3

  apart_second : AreApart (items fork.second) (items fork.third ++ items fork.fourth)
  apart_second = second_apart (levels - 1) part fork.first _ _ _ h.0 h.1 h.2 h.3

  apart_third : AreApart (items fork.third) (items fork.fourth)
  apart_third = third_apart (levels - 1) part fork.first fork.second _ _ h.0 h.1 h.2 h.3

  pub passed_in_first : is_some (next_sent transport now (items fork.first)) ≡ true
      → a ++ (items fork.second ++ (items fork.third ++ items fork.fourth))
      ≡ passed transport now (fork_items fork)
  passed_in_first some = passed_first transport now _ _ apart_first a some is_a

  module _ (none : is_some (next_sent transport now (items fork.first)) ≡ false) (b : Transactions)
      (is_b : b ≡ passed transport now (items fork.second)) where
    pub passed_in_second : is_some (next_sent transport now (items fork.second)) ≡ true
        → a ++ (b ++ (items fork.third ++ items fork.fourth))
        ≡ passed transport now (fork_items fork)
    passed_in_second some =
        passed_second transport now _ _ apart_first a _ none is_a
        (passed_first transport now _ _ apart_second b some is_b)

    module _ (neither : is_some (next_sent transport now (items fork.second)) ≡ false)
        (c : Transactions) (is_c : c ≡ passed transport now (items fork.third)) where
      pub passed_in_third : is_some (next_sent transport now (items fork.third)) ≡ true
          → a ++ (b ++ (c ++ items fork.fourth)) ≡ passed transport now (fork_items fork)
      passed_in_third some =
          passed_second transport now _ _ apart_first a _ none is_a
          (passed_second transport now _ _ apart_second b _ neither is_b
          (passed_first transport now _ _ apart_third c some is_c))

      pub passed_in_fourth : is_some (next_sent transport now (items fork.third)) ≡ false
          → (d : Transactions) → d ≡ passed transport now (items fork.fourth)
          → a ++ (b ++ (c ++ d)) ≡ passed transport now (fork_items fork)
      passed_in_fourth last d is_d =
          passed_second transport now _ _ apart_first a _ none is_a
          (passed_second transport now _ _ apart_second b _ neither is_b
          (passed_second transport now _ _ apart_third c d last is_c is_d))
