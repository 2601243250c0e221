-- The least moment that is awaited by a transaction that is not cancelled.
use Rattle.std.proofs.Common.{ℕ, ◌≡◌, ◌≤◌, ◌⊎◌, inl, inr, arith, min, Bool, true, false}
use Rattle.std.proofs.Common.{not, cond, List, [], ◌∷◌, map, subst, ap, sym, refl, ◌∙◌}
use Rattle.std.specs.Prelude.{Option, Some, None, filter, fold}
use Rattle.std.specs.Option.{option_map_or}
use Rattle.std.specs.Map.{keys_of}
use Rattle.std.specs.Ordering.{nat_cmp}
use Rattle.std.specs.BTreeMap.{is_at}
use Rattle.std.proofs.lemmas.Bool.{cases_lt}
use Rattle.std.proofs.lemmas.Map.Keys.{sorted_head, sorted_tail}
use Rattle.stun_base.specs.declared.wire.transport.TransportType.{TransportType}
use Rattle.stun_agent.specs.Transactions.{Transaction, Transactions, IsAscending}
use Rattle.stun_agent.specs.Transactions.{at, awaited_moment, awaited_moments}
use Rattle.stun_agent.specs.Transactions.{is_cancelled, sooner}
use Rattle.stun_agent.proofs.EntryLemmas.{own_key, same_key}
use Rattle.stun_agent.proofs.LookupLemmas.{none_above}

-- ---- the least of a list, if there is one
kept : (ms : List ℕ) (l n : ℕ) → fold sooner (Some l) ms ≡ Some n → n ≤ l
kept [] l n h = let same : l ≡ n = ap (λ o. option_map_or (λ x. x) o l) h in omega arith
kept (m ∷ ms) l n h = let rest = kept ms (min l m) n h in omega arith

first_le : (ms : List ℕ) (c : Option ℕ) (m n : ℕ) → fold sooner (sooner c m) ms ≡ Some n → n ≤ m
first_le ms None m n h = kept ms m n h
first_le ms (Some l) m n h = let rest = kept ms (min l m) n h in omega arith

some_stays : (ms : List ℕ) (l : ℕ) → fold sooner (Some l) ms ≡ None → ⊥
some_stays [] l h = cc
some_stays (m ∷ ms) l h = some_stays ms (min l m) h

sooner_stays : (ms : List ℕ) (c : Option ℕ) (m : ℕ) → fold sooner (sooner c m) ms ≡ None → ⊥
sooner_stays ms None m h = some_stays ms m h
sooner_stays ms (Some l) m h = some_stays ms (min l m) h

one_of : (c : Option ℕ) (m n : ℕ) → sooner c m ≡ Some n → (c ≡ Some n) ⊎ (m ≡ n)
one_of None m n h = inr (ap (λ o. option_map_or (λ x. x) o m) h)
one_of (Some l) m n h = by (let same : min l m ≡ n = ap (λ o. option_map_or (λ x. x) o m) h in same)
  where
    choose : (l m n : ℕ) → min l m ≡ n → (l ≡ n) ⊎ (m ≡ n)
    choose l m n h = elim (cases_lt m l) [
      | inl less ↦ inr (omega arith)
      | inr least ↦ inl (omega arith)
    ]

    by : min l m ≡ n → (Some l ≡ Some n) ⊎ (m ≡ n)
    by h = elim (choose l m n h) [
      | inl same ↦ inl (ap Some same)
      | inr same ↦ inr same
    ]

-- ---- entries of the rest of a map
tail_key : (n : ℕ) (e : ℕ × Transaction) (es : Transactions) (t : Transaction)
    → IsAscending (e ∷ es) → at n es ≡ Some t → is_at (nat_cmp n) e.0 ≡ false
tail_key n e es t s h = by (is_at (nat_cmp n) e.0) refl
  where
    by : (b : Bool) → is_at (nat_cmp n) e.0 ≡ b → b ≡ false
    by false is = refl
    by true is =
        let key : e.0 ≡ n = same_key n e.0 is in
        let none : at e.0 es ≡ None = none_above e.0 es (sorted_head nat_cmp e.0 (keys_of es) s) in
        let none_here : at n es ≡ None = subst (λ k. at k es ≡ None) key none in cc

tail_at : (n : ℕ) (e : ℕ × Transaction) (es : Transactions) (t : Transaction)
    → IsAscending (e ∷ es) → at n es ≡ Some t → at n (e ∷ es) ≡ Some t
tail_at n e es t s h = ap (λ b. cond b (Some e.1) (at n es)) (tail_key n e es t s h) ∙ h

head_at : (e : ℕ × Transaction) (es : Transactions) → at e.0 (e ∷ es) ≡ Some e.1
head_at e es = ap (λ b. cond b (Some e.1) (at e.0 es)) (own_key e.0)

-- ---- the moments that are awaited
module _ (transport : TransportType) where
  abbrev least : Option ℕ → Transactions → Option ℕ
  least c es = fold sooner c (awaited_moments transport es)

  -- nothing that is awaited is less
  pub least_le : (es : Transactions) (c : Option ℕ) (n k : ℕ) (t : Transaction) → at k es ≡ Some t
      → is_cancelled t.sending ≡ false → least c es ≡ Some n → n ≤ awaited_moment transport t
  least_le [] c n k t h live f = cc
  least_le (e ∷ es) c n k t h live f =
      by (is_cancelled e.1.sending) (is_at (nat_cmp k) e.0) refl h f
      (λ c h f. least_le es c n k t h live f)
    where
      by : (b own : Bool) → is_cancelled e.1.sending ≡ b → cond own (Some e.1) (at k es) ≡ Some t
          → fold sooner c
          (map (λ (x : ℕ × Transaction). awaited_moment transport x.1)
          (cond (not b) (e ∷ filter (λ x. not (is_cancelled x.1.sending)) es)
          (filter (λ x. not (is_cancelled x.1.sending)) es))) ≡ Some n
          → ((c : Option ℕ) → at k es ≡ Some t → least c es ≡ Some n
          → n ≤ awaited_moment transport t)
          → n ≤ awaited_moment transport t
      by true true is h f rest = let value : e.1 ≡ t = cc in let clash : true ≡ false = sym is
          ∙ ap (λ (x : Transaction). is_cancelled x.sending) value ∙ live in cc
      by true false is h f rest = rest c h f
      by false true is h f rest = let value : e.1
          ≡ t = cc in
          subst (λ x. n ≤ awaited_moment transport x) value
          (first_le (awaited_moments transport es) c (awaited_moment transport e.1) n f)
      by false false is h f rest = rest (sooner c (awaited_moment transport e.1)) h f

  -- where a moment is awaited, there is a least
  pub least_some : (es : Transactions) (c : Option ℕ) (k : ℕ) (t : Transaction) → at k es ≡ Some t
      → is_cancelled t.sending ≡ false → least c es ≡ None → ⊥
  least_some [] c k t h live f = cc
  least_some (e ∷ es) c k t h live f =
      by (is_cancelled e.1.sending) (is_at (nat_cmp k) e.0) refl h f
      (λ c h f. least_some es c k t h live f)
    where
      by : (b own : Bool) → is_cancelled e.1.sending ≡ b → cond own (Some e.1) (at k es) ≡ Some t
          → fold sooner c
          (map (λ (x : ℕ × Transaction). awaited_moment transport x.1)
          (cond (not b) (e ∷ filter (λ x. not (is_cancelled x.1.sending)) es)
          (filter (λ x. not (is_cancelled x.1.sending)) es))) ≡ None
          → ((c : Option ℕ) → at k es ≡ Some t → least c es ≡ None → ⊥) → ⊥
      by true true is h f rest = let value : e.1 ≡ t = cc in let clash : true ≡ false = sym is
          ∙ ap (λ (x : Transaction). is_cancelled x.sending) value ∙ live in cc
      by true false is h f rest = rest c h f
      by false own is h f rest =
          sooner_stays (awaited_moments transport es) c (awaited_moment transport e.1) f

  -- a request that awaits a moment
  abbrev pub Awaits : Transactions → ℕ → Type 0
  Awaits es n = (k : ℕ) × (t : Transaction) × (at k es ≡ Some t) × (is_cancelled t.sending ≡ false)
      × (awaited_moment transport t ≡ n)

  pub awaits_tail : (e : ℕ × Transaction) (es : Transactions) (n : ℕ) → IsAscending (e ∷ es)
      → Awaits es n → Awaits (e ∷ es) n
  awaits_tail e es n s (k, t, h, live, is) = (k, t, tail_at k e es t s h, live, is)

  -- the least is awaited, or is the one at first
  pub least_in : (es : Transactions) (c : Option ℕ) (n : ℕ) → IsAscending es → least c es ≡ Some n
      → (c ≡ Some n) ⊎ Awaits es n
  least_in [] c n s f = inl f
  least_in (e ∷ es) c n s f =
      by (is_cancelled e.1.sending) refl f
      (λ c f. least_in es c n (sorted_tail nat_cmp e.0 (keys_of es) s) f)
    where
      later : {d : Option ℕ} → (d ≡ Some n) ⊎ Awaits es n → (d ≡ Some n) ⊎ Awaits (e ∷ es) n
      later (inl same) = inl same
      later (inr found) = inr (awaits_tail e es n s found)

      first : is_cancelled e.1.sending ≡ false → (c ≡ Some n) ⊎ (awaited_moment transport e.1 ≡ n)
          → (c ≡ Some n) ⊎ Awaits (e ∷ es) n
      first live (inl same) = inl same
      first live (inr is) = inr (e.0, e.1, head_at e es, live, is)

      with_first : is_cancelled e.1.sending ≡ false
          → (sooner c (awaited_moment transport e.1) ≡ Some n)
          ⊎ Awaits (e ∷ es) n → (c ≡ Some n) ⊎ Awaits (e ∷ es) n
      with_first live (inl same) = first live (one_of c (awaited_moment transport e.1) n same)
      with_first live (inr found) = inr found

      by : (b : Bool) → is_cancelled e.1.sending ≡ b
          → fold sooner c
          (map (λ (x : ℕ × Transaction). awaited_moment transport x.1)
          (cond (not b) (e ∷ filter (λ x. not (is_cancelled x.1.sending)) es)
          (filter (λ x. not (is_cancelled x.1.sending)) es))) ≡ Some n
          → ((c : Option ℕ) → least c es ≡ Some n → (c ≡ Some n) ⊎ Awaits es n)
          → (c ≡ Some n) ⊎ Awaits (e ∷ es) n
      by true is f rest = later (rest c f)
      by false is f rest = with_first is (later (rest (sooner c (awaited_moment transport e.1)) f))
