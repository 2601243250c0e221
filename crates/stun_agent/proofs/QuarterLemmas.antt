-- An id is in one quarter of a fork: what is there, or changes there, is so below the fork.
use Rattle.std.proofs.Common.{ℕ, ◌≡◌, ◌+◌, ◌-◌, ◌*◌, ◌<◌, arith, ◌++◌, ap, sym, ◌∙◌}
use Rattle.stun_types.proofs.ReachedLemmas.{weaker}
use Rattle.stun_agent.specs.declared.state.tree.Fork.{Fork}
use Rattle.stun_agent.specs.Tables.{Attached, datum_at, with_datum, without_datum, set_datum}
use Rattle.stun_agent.specs.Transactions.{Transaction, with_change_at}
use Rattle.stun_agent.specs.code.Tree.{items, attached, part_of, IsOrderedFork}
use Rattle.stun_agent.proofs.HalvesLemmas.{AreLater, AreSooner, at-left, at-right, with-left}
use Rattle.stun_agent.proofs.HalvesLemmas.{with-right, without-left, without-right, change-left}
use Rattle.stun_agent.proofs.HalvesLemmas.{change-right, set-left, set-right}
use Rattle.stun_agent.proofs.TreeLemmas.{AreInPart, all_append, later_part, items_in_part}
use Rattle.stun_agent.proofs.TreeLemmas.{attached_in_part}

-- a change at an id is one in the part that may have it
pub record ActsAt {X : Type 0} (id : ℕ) (F : Attached X → Attached X) : Type 0 where
  pub before : (xs ys : Attached X) → AreLater id ys → F (xs ++ ys) ≡ F xs ++ ys
  pub after : (xs ys : Attached X) → AreSooner id xs → F (xs ++ ys) ≡ xs ++ F ys

pub with_acts : {X : Type 0} (id : ℕ) (t : X) → ActsAt id (with_datum id t)
with_acts id t = record { before = with-left id t; after = with-right id t }

pub without_acts : {X : Type 0} (id : ℕ) → ActsAt {X = X} id (without_datum id)
without_acts id = record { before = without-left id; after = without-right id }

pub set_acts : {X : Type 0} (id : ℕ) (t : X) → ActsAt id (set_datum id t)
set_acts id t = record { before = set-left id t; after = set-right id t }

pub change_acts : (id : ℕ) (f : Transaction → Transaction) → ActsAt id (with_change_at f id)
change_acts id f = record { before = change-left id f; after = change-right id f }

-- the ids of four lists are in the quarters of a part
pub record AreQuarters {X : Type 0} (levels part : ℕ) (a b c d : Attached X) : Type 0 where
  pub first : AreInPart (levels - 1) (4 * part) a
  pub second : AreInPart (levels - 1) (4 * part + 1) b
  pub third : AreInPart (levels - 1) (4 * part + 2) c
  pub fourth : AreInPart (levels - 1) (4 * part + 3) d

module _ {A D : Type 0} {levels part : ℕ} (fork : Fork A D) (h : IsOrderedFork levels part fork)
  where
    pub of_items : AreQuarters levels part (items fork.first) (items fork.second)
        (items fork.third) (items fork.fourth)
    of_items = record {
      first = items_in_part _ _ fork.first h.0;
      second = items_in_part _ _ fork.second h.1;
      third = items_in_part _ _ fork.third h.2;
      fourth = items_in_part _ _ fork.fourth h.3;
    }

    pub of_attached : AreQuarters levels part (attached fork.first) (attached fork.second)
        (attached fork.third) (attached fork.fourth)
    of_attached = record {
      first = attached_in_part _ _ fork.first h.0;
      second = attached_in_part _ _ fork.second h.1;
      third = attached_in_part _ _ fork.third h.2;
      fourth = attached_in_part _ _ fork.fourth h.3;
    }

module _ {X : Type 0} (levels id : ℕ) {a b c d : Attached X}
    (h : AreQuarters levels (part_of levels id) a b c d) where
  abbrev part : ℕ
  part = part_of (levels - 1) id

  abbrev of_all : ℕ
  of_all = 4 * part_of levels id

  are_later : {other : ℕ} (es : Attached X) → AreInPart (levels - 1) other es → part < other
      → AreLater id es
  are_later es inside less =
      weaker _ _ es (λ e at. later_part (levels - 1) id e.0 (rw at less)) inside

  are_sooner : {other : ℕ} (es : Attached X) → AreInPart (levels - 1) other es → other < part
      → AreSooner id es
  are_sooner es inside less =
      weaker _ _ es (λ e at. later_part (levels - 1) e.0 id (rw at less)) inside

  later_third : part < of_all + 2 → AreLater id (c ++ d)
  later_third less =
      all_append _ c d (are_later c h.third less) (are_later d h.fourth (omega (arith, less)))

  later_second : part < of_all + 1 → AreLater id (b ++ (c ++ d))
  later_second less =
      all_append _ b (c ++ d) (are_later b h.second less) (later_third (omega (arith, less)))

  -- ---- what is at the id
  pub at_first : part ≡ of_all → datum_at id a ≡ datum_at id (a ++ (b ++ (c ++ d)))
  at_first is = sym (at-left id a _ (later_second (omega (arith, is))))

  pub at_second : part ≡ of_all + 1 → datum_at id b ≡ datum_at id (a ++ (b ++ (c ++ d)))
  at_second is =
      sym (at-right id a _ (are_sooner a h.first (omega (arith, is)))
      ∙ at-left id b _ (later_third (omega (arith, is))))

  pub at_third : part ≡ of_all + 2 → datum_at id c ≡ datum_at id (a ++ (b ++ (c ++ d)))
  at_third is =
      sym (at-right id a _ (are_sooner a h.first (omega (arith, is)))
      ∙ at-right id b _ (are_sooner b h.second (omega (arith, is)))
      ∙ at-left id c _ (are_later d h.fourth (omega (arith, is))))

  pub at_fourth : part ≡ of_all + 3 → datum_at id d ≡ datum_at id (a ++ (b ++ (c ++ d)))
  at_fourth is =
      sym (at-right id a _ (are_sooner a h.first (omega (arith, is)))
      ∙ at-right id b _ (are_sooner b h.second (omega (arith, is)))
      ∙ at-right id c _ (are_sooner c h.third (omega (arith, is))))

  -- ---- what changes there
  module _ {F : Attached X → Attached X} (acts : ActsAt id F) (es : Attached X) where
    pub in_first : part ≡ of_all → es ≡ F a → es ++ (b ++ (c ++ d)) ≡ F (a ++ (b ++ (c ++ d)))
    in_first is new =
        ap (λ l. l ++ (b ++ (c ++ d))) new
        ∙ sym (acts.before a _ (later_second (omega (arith, is))))

    pub in_second : part ≡ of_all + 1 → es ≡ F b
        → a ++ (es ++ (c ++ d)) ≡ F (a ++ (b ++ (c ++ d)))
    in_second is new =
        ap (λ l. a ++ l)
        (ap (λ l. l ++ (c ++ d)) new
        ∙ sym (acts.before b _ (later_third (omega (arith, is)))))
        ∙ sym (acts.after a _ (are_sooner a h.first (omega (arith, is))))

    pub in_third : part ≡ of_all + 2 → es ≡ F c
        → a ++ (b ++ (es ++ d)) ≡ F (a ++ (b ++ (c ++ d)))
    in_third is new =
        ap (λ l. a ++ l)
        (ap (λ l. b ++ l)
        (ap (λ l. l ++ d) new
        ∙ sym (acts.before c _ (are_later d h.fourth (omega (arith, is)))))
        ∙ sym (acts.after b _ (are_sooner b h.second (omega (arith, is)))))
        ∙ sym (acts.after a _ (are_sooner a h.first (omega (arith, is))))

    pub in_fourth : part ≡ of_all + 3 → es ≡ F d
        → a ++ (b ++ (c ++ es)) ≡ F (a ++ (b ++ (c ++ d)))
    in_fourth is new =
        ap (λ l. a ++ l)
        (ap (λ l. b ++ l)
        (ap (λ l. c ++ l) new
        ∙ sym (acts.after c _ (are_sooner c h.third (omega (arith, is)))))
        ∙ sym (acts.after b _ (are_sooner b h.second (omega (arith, is)))))
        ∙ sym (acts.after a _ (are_sooner a h.first (omega (arith, is))))
