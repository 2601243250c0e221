-- One request among others: what a call of the agent leaves of it. It is still retransmitted.
use Rattle.std.proofs.Common.{ℕ, ◌≡◌, ◌<◌, ◌≤◌, Bool, true, false, ◌&&◌, cond}
use Rattle.std.proofs.Common.{subst, ap, sym, refl, ◌∙◌, arith}
use Rattle.std.specs.Prelude.{find, Some, None, nat_le}
use Rattle.std.specs.Option.{option_map_or}
use Rattle.std.specs.Ordering.{nat_cmp}
use Rattle.std.specs.BTreeMap.{is_at}
use Rattle.std.proofs.lemmas.Bool.{lt-leb, le-leb}
use Rattle.stun_base.specs.declared.wire.transport.TransportType.{TransportType}
use Rattle.stun_agent.specs.Transactions.{Transaction, Transactions, at, repeats}
use Rattle.stun_agent.specs.Transactions.{next_sent, first_over, is_due, is_over}
use Rattle.stun_agent.specs.Transactions.{after_slot, after_slots, slot_passed}
use Rattle.stun_agent.proofs.EntryLemmas.{own_key, same_key, lookup_found, lookup-map_entries}
use Rattle.stun_agent.specs.Transactions.{IsAscending}
use Rattle.stun_agent.proofs.LookupLemmas.{found_passes}
use Rattle.stun_proto.proofs.Tests.{both}
use Rattle.stun_agent.proofs.Ascending.{find-none, find-least}

-- ---- numbers as keys
pub other_key : (id j : ℕ) → is_at (nat_cmp id) j ≡ false → j ≡ id → ⊥
other_key id j apart same = let own : is_at (nat_cmp id) id ≡ true =
    own_key id in let here : is_at (nat_cmp id) id ≡ false =
    subst (λ x. is_at (nat_cmp id) x ≡ false) same apart in cc

pub off_key : (id j : ℕ) → (j ≡ id → ⊥) → is_at (nat_cmp id) j ≡ false
off_key id j apart = by (is_at (nat_cmp id) j) refl
  where
    by : (b : Bool) → is_at (nat_cmp id) j ≡ b → b ≡ false
    by false is = refl
    by true is = absurd (apart (same_key id j is))

-- ---- tests
and_one : (a b : Bool) → b ≡ true → (a && b) ≡ a
and_one true true h = refl
and_one false true h = refl
and_one a false h = cc

-- a choice by two tests, where the first fails if the second holds
not_chosen : {X : Type 0} (r d : Bool) (x y : X) → (d ≡ true → r ≡ false) → cond (r && d) x y ≡ y
not_chosen true true x y h = let no : true ≡ false = h refl in cc
not_chosen true false x y h = refl
not_chosen false d x y h = refl

chosen : {X : Type 0} (r d : Bool) (x y : X) → r ≡ true → d ≡ true → cond (r && d) x y ≡ x
chosen true true x y h k = refl
chosen true false x y h k = cc
chosen false d x y h k = cc

module _ (transport : TransportType) (now id : ℕ) (all : Transactions) (s : Transaction)
    (ascends : IsAscending all) (stands : at id all ≡ Some s)
    (sounds : repeats s.sending ≡ true) where
  -- it is the one that is found
  found_same : (p : ℕ × Transaction → Bool) (w : Transaction) → find p all ≡ Some (id, w) → w ≡ s
  found_same p w f =
      let there : at id all ≡ Some w = lookup_found p all id w ascends f in
      ap (λ o. option_map_or (λ t. t) o w) (sym there ∙ stands)

  -- ---- transmission
  pub sent_same : (w : Transaction) → next_sent transport now all ≡ Some (id, w)
      → (w ≡ s) × (is_due transport now s ≡ true)
      × (at id (after_slots transport now (Some id) all) ≡ Some (after_slot now s))
  sent_same w f =
      let same = found_same (λ e. is_due transport now e.1 && repeats e.1.sending) w f in
      let passes =
      found_passes (λ e. is_due transport now e.1 && repeats e.1.sending) all (id, w) f in
      let due : is_due transport now s ≡ true =
      subst (λ t. is_due transport now t ≡ true) same
      (both (is_due transport now w) (repeats w.sending) passes).0 in (
        same,
        due,
        lookup-map_entries (slot_passed transport now (Some id)) id all s stands
            ∙ ap Some
            (chosen (nat_le id id) (is_due transport now s) (after_slot now s) s
            (le-leb id id (omega arith)) due),
      )

  pub sent_other : (j : ℕ) (w : Transaction) → next_sent transport now all ≡ Some (j, w)
      → is_at (nat_cmp id) j ≡ false → at id (after_slots transport now (Some j) all) ≡ Some s
  sent_other j w f apart =
      lookup-map_entries (slot_passed transport now (Some j)) id all s stands
      ∙ ap Some (not_chosen (nat_le id j) (is_due transport now s) (after_slot now s) s past)
    where
      past : is_due transport now s ≡ true → nat_le id j ≡ false
      past due =
          let passes = and_one (is_due transport now s) (repeats s.sending) sounds ∙ due in
          let least : j ≤ id =
          find-least (λ e. is_due transport now e.1 && repeats e.1.sending) all id j s w ascends
          stands passes f in
          lt-leb id j (strict least (other_key id j apart))
        where
          strict : {m n : ℕ} → m ≤ n → (m ≡ n → ⊥) → m < n
          strict {m} {n} le ne = omega (arith, ne)

  pub sent_none : next_sent transport now all ≡ None
      → (is_due transport now s ≡ false) × (at id (after_slots transport now None all) ≡ Some s)
  sent_none f =
      let off = sym (and_one (is_due transport now s) (repeats s.sending) sounds)
      ∙ find-none (λ e. is_due transport now e.1 && repeats e.1.sending) all id s stands f in (
        off,
        lookup-map_entries (slot_passed transport now None) id all s stands
            ∙ ap Some
            (not_chosen true (is_due transport now s) (after_slot now s) s (λ due. sym due ∙ off)),
      )

  -- ---- the end
  pub over_same : (w : Transaction) → first_over transport now all ≡ Some (id, w)
      → (w ≡ s) × (is_over transport now s ≡ true)
  over_same w f =
      let same = found_same (λ e. is_over transport now e.1) w f in (
        same,
        subst (λ t. is_over transport now t ≡ true) same
            (found_passes (λ e. is_over transport now e.1) all (id, w) f),
      )

  pub over_none : first_over transport now all ≡ None → is_over transport now s ≡ false
  over_none f = find-none (λ e. is_over transport now e.1) all id s stands f
