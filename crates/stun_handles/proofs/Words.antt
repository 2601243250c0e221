-- What a handle is to the machine, and how what it owns goes in and comes out. Assumes `Logic`.
use Rattle.stun_handles.proofs.Steps.{◌≡◌, ℕ, List, [], ◌∷◌, ◌++◌, refl, ◌∙◌, never, id⊢, fst∗}
use Rattle.stun_handles.proofs.Steps.{via, never_e, ftrue, bare, Val, vbool, vstruct, vcons, vnil}
use Rattle.stun_handles.proofs.Steps.{of_list, Logic, sem, Item, Goal, Seq, Step, step, ‵, given}
use Rattle.stun_handles.proofs.Steps.{◌$◌, drop, use1, learn, fsplit, fjoin, fpick, fpack, feq_i}
use Rattle.stun_handles.proofs.Steps.{feq_l, bool, lone, RattleType, Valss, Ptr, RawPtr}
use Rattle.stun_handles.proofs.Steps.{block_ptr, null_ptr, ptr_val, in_a_block, nothing, within}
use Rattle.stun_handles.proofs.Steps.{shape, Ptr-Good, Bool, true, false, Option, Some, None}
use lib.Dec.{T as IsTrue}
use mir.Syntax.{ty_bool, ty_ptr}
use mir.Val.{has_ty, WT}
use mathlib.Core.Bool.{◌&&◌}
use Rattle.std_alloc.proofs.ResultValues.{and_tt}
use seplogic.Ra.Ura.{Ura}
use Rattle.std_alloc.specs.Box.Ownership.{box_owns}
use Rattle.std_heap.specs.declared.Global.{Global}
use Rattle.std_heap.specs.contracts.GlobalAllocator.TheImpl.{ghosts}
use Rattle.stun_handles.specs.code.Handle.{handle_owns, full_or_empty}
use Rattle.stun_handles.specs.contracts.handle.Loose as loose

-- the flag and the pointer, side by side
abbrev pub word : Bool → Ptr → Val
word full p = vstruct (vcons (vbool full) (vcons (ptr_val p) vnil))

-- and they are of their types
pub word_good : (full : Bool) (p : Ptr)
    → IsTrue (has_ty ty_bool (vbool full) && (has_ty ty_ptr (ptr_val p) && true)) × WT (word full p)
word_good full p = let at = Ptr-Good p in (and_tt _ at.0, (tt, (at.1, tt)))

module _ (R : RattleType) {M : Type 1} {𝓤 : Ura M} {𝓛 : Logic 𝓤} {K : Type 0} {Γ : List (Item 𝓤)}
    {G : Goal 𝓤 𝓛.H} where
  -- a handle is its word and what it owns
  pub opened : K → (h : (loose.the_row R).Denot) (vs : List Val)
      → (vs ≡ word h.is_full h.at ∷ [] → Seq K 𝓛 (‵ (handle_owns R h.is_full h.at h.state) ∷ Γ) G)
      → Seq K 𝓛 (‵ ((loose.the_row R).own_val h vs) ∷ Γ) G
  opened t h vs rest =
      fsplit t
      $ fpick t
      (λ vss. fsplit t
      $ feq_l t (λ is. fsplit t $ feq_l t (λ flag. fsplit t $ feq_l t (λ at. drop t $
      rest (is ∙ (λ j. vstruct (of_list (flag j ++ (at j ++ []))) ∷ []))))))

  pub closed : K → (full : Bool) (p : Ptr) (state : Option R.Denot)
      → Step K 𝓛
      (‵ ((loose.the_row R).own_val (record { is_full = full; at = p; state = state })
      (word full p ∷ [])) ∷ Γ) G (‵ (handle_owns R full p state) ∷ Γ) G
  closed t full p state = step (λ rest.
      nothing t $ feq_i t (List Val) (ptr_val p ∷ []) (ptr_val p ∷ []) refl $ fjoin t
      $ feq_i t (List Val) (vbool full ∷ []) (vbool full ∷ []) refl $ fjoin t $
      feq_i t (List Val) (word full p ∷ []) (word full p ∷ []) refl $ fjoin t $
      fpack t (Valss (bool ∷ RawPtr ∷ []))
      (within (shape (loose.the_type R)) (full, (p, tt)) (word full p ∷ [])) (
        vbool full ∷ [],
        (ptr_val p ∷ [], tt),
      ) $ fjoin t $ rest)

  -- it is full, and owns what a box at its pointer owns, or empty
  pub either : K → (full : Bool) (p : Ptr) (state : Option R.Denot)
      → ((g : Global) (b o : ℕ) (x : R.Denot) → full ≡ true → p ≡ block_ptr b o → state ≡ Some x
      → Seq K 𝓛 (‵ (box_owns (ghosts.dealloc_token g) R (block_ptr b o) x) ∷ Γ) G)
      → (full ≡ false → state ≡ None → Seq K 𝓛 Γ G)
      → Seq K 𝓛 (‵ (handle_owns R full p state) ∷ Γ) G
  unfolding full_or_empty
  either t true p (Some x) filled empty =
      fpick t (λ g. in_a_block t p (λ q. box_owns (ghosts.dealloc_token g) R q x)
      (fst∗ 𝓤 (never 𝓤) (sem 𝓛 (ghosts.dealloc_token g (bare (lone R.mir)) null_ptr)))
      (λ b o at. filled g b o x refl at refl))
  either t true p None filled empty =
      use1 𝓛 (given ⊥ (‵ ftrue)) (via 𝓤 (never 𝓤) (id⊢ 𝓤 _) (never_e 𝓤 _))
      $ learn t (λ no. absurd no)
  either t false p (Some x) filled empty =
      use1 𝓛 (given ⊥ (‵ ftrue)) (via 𝓤 (never 𝓤) (id⊢ 𝓤 _) (never_e 𝓤 _))
      $ learn t (λ no. absurd no)
  either t false p None filled empty = drop t $ empty refl refl
