-- The box is taken apart, and its parts own what it owned.
use Rattle.stun_handles.proofs.Steps.{◌≡◌, List, [], ◌∷◌, ◌++◌, refl, sym, ap, ◌∙◌, subst}
use Rattle.stun_handles.proofs.Steps.{proved_at, leaves, SProp, ent, emp, never, id⊢, fst∗, ftrue}
use Rattle.stun_handles.proofs.Steps.{fsep, flft, fact, fact_i, tables, WpFn, a_type, dcons, dnil}
use Rattle.stun_handles.proofs.Steps.{bare, inst_fn, Val, vstruct, of_list, sem, Item, ‵, raw}
use Rattle.stun_handles.proofs.Steps.{◌⊛◌, some, later, ◌$◌, ◌∵◌, !, qed, by, move, keep, drop}
use Rattle.stun_handles.proofs.Steps.{use0, use1, split, split3, join, fsplit, fjoin, fpick}
use Rattle.stun_handles.proofs.Steps.{feq_l, pick, await, rewrite, suffices, agg, sub, whole}
use Rattle.stun_handles.proofs.Steps.{enter, of_opd, stop, fld, no_more, and_then, returns}
use Rattle.stun_handles.proofs.Steps.{alloc_all, pass_all, free_all, look_at, get, get_in, sets}
use Rattle.stun_handles.proofs.Steps.{lands_as, no, layout, bounded, RattleType, owns, Ptr}
use Rattle.stun_handles.proofs.Steps.{RawPtr, block_ptr, null_ptr, ptr_val, in_a_block, types_at}
use Rattle.stun_handles.proofs.Steps.{plain, nothing, heard, only, Tuple, calls_at, triple_of}
use Rattle.stun_handles.proofs.Steps.{Stays, stay_dropped, walk_of, Goes-blank, handle_tells, fm}
use Rattle.std_alloc.specs.Box.Ownership.{box_owns}
use Rattle.std_alloc.proofs.BoxSteps.Form.{Bx, R, P, B, word, box_typed}
use Rattle.std_alloc.proofs.BoxSteps.Steps.{box_out, box_in}
use Rattle.std_alloc.specs.contracts.boxed.Box.into_raw_with_allocator as opening
use Rattle.std_alloc.proofs.boxed.Box.into_raw_with_allocator.Met as opening_met
use Rattle.stun_handles.specs.contracts.handle.parts.Parts as parts
use Rattle.stun_handles.specs.contracts.handle.parts.Parts.of.{ended, clauses}
use Rattle.stun_handles.specs.contracts.handle.parts.Parts.of.Key.{name as #self}
use Rattle.stun_handles.proofs.handle.parts.Parts.of.Statement.{statement}
use Rattle.stun_handles.proofs.handle.parts.Parts.of.Code as code

pub of_spec : {M : Type 1} → statement M
of_spec 𝓤 𝓛 𝓜 𝓡 wired T A LT LA g d da dt allocator glue_a glue_t =
    let H = 𝓛.H in let 𝓣 = tables 𝓤 H 𝓜 𝓡 𝓡.env in let En = ended T A g d da dt in let c =
    clauses T A g d da dt 𝓛 𝓜.mem 𝓡.returns in
    let E : Bx =
    record { row = T; laws = LT; al = record { row = A; laws = LA; g = g; d = d; drops = da } } in
    let To : RattleType = parts.the_row (R E) (P E) g in
    let inst = bounded (a_type ∷ a_type ∷ []) (T, (A, tt)) (dcons d (dcons da (dcons dt dnil))) in
    let fn = inst_fn inst code.function in
    let Opens =
    triple_of 𝓛 (opening.signature T A g d da dt) (opening.spec T A g d da dt 𝓛 𝓜.mem 𝓡.returns) in
    let opens =
    opening_met.met 𝓤 𝓛 𝓜 𝓡 (code.calls-std_alloc::boxed::Box::into_raw_with_allocator 𝓡.env wired)
    T A LT LA g d da dt allocator glue_a glue_t in
    let hs : Stays En.signature.params En.kept = (stay_dropped (plain (λ _. B E)) no, tt) in
    proved_at 𝓛 En hs c 𝓜 𝓡 (Goes-blank 𝓛 2 (plain (λ _. B E)) no (λ κs x f. tt), tt) (#self inst)
    fn (code.unfolded 𝓤 H 𝓜 𝓡 wired (T, (A, tt)) d da dt) (λ z are.
    let κs = z.0.0 in let qs = z.0.1 in let whole_box = z.0.3.0 in let a = whole_box.alloc in
    let x = whole_box.value in
    let Post : Val → SProp 𝓤 = (walk_of 𝓛 En hs c).post z in let Run : List Val
    → SProp 𝓤 = λ us. WpFn 𝓤 H 𝓣.C 𝓣.Λ fn us Post in
    let tokens : Item 𝓤 = ‵ (flft κs.0 qs.0) ⊛ ‵ (flft κs.1.0 qs.1.0) ⊛ ‵ ftrue in
    qed 𝓛 ((tokens ⊛ ‵ (owns (types_at En.signature.params κs) z.0.3 z.0.4))
    ∷ raw ((c κs z.0.3).requires z.1) ∷ []) ∵ split ! $ move ! (1 ∷ []) $ fsplit ! $
    box_out E ! whole_box z.0.4.0 (λ b o h at is fits. box_in E ! whole_box b o x at refl $
    let w : Val = word E h b o in let good = box_typed E h b o fits in let y : Opens.Ghost =
    ((κs, qs, tt, (whole_box, tt), (w ∷ [], tt)), tt) in
    suffices ! (Run (w ∷ []))
    (subst (λ (us : List Val). ent 𝓤 (Run (w ∷ [])) (Run us)) (sym (λ i. is i ++ [])) (id⊢ 𝓤 _)) $
    fjoin ! $ move ! (1 ∷ 0 ∷ []) $ join ! $ join ! $ use1 𝓛 (raw (Opens.pre y)) (id⊢ 𝓤 _) $
    enter ! 𝓣.C 𝓣.Λ fn (w ∷ []) Post
    $ alloc_all ! (λ l. pass_all ! refl (good, tt) $ sets ! (of_opd ! (get ! refl)) refl good $
    calls_at ! (fm 𝓛 𝓜 𝓡) Opens opens y (and_then ! (get ! refl) (no_more !)) (λ u.
    use1 𝓛 (later
    (some (λ (r : Ptr × A.Denot). (tokens ⊛ ‵ ((Tuple (RawPtr ∷ P E ∷ [])).own_val r (u ∷ [])))
    ⊛ some (λ (_ : (Unit {0} × (Unit {0} × Unit {0})) × Unit {0}).
    ‵ (fsep (fsep ftrue (fsep ftrue ftrue)) ftrue)
    ⊛ (raw (fact 𝓤 (r.1 ≡ a)) ⊛ ‵ (box_owns (g.dealloc_token a) (R E) r.0 x)))))) (id⊢ 𝓤 _) $
    await ! tt
    $ pick !
    (λ r. split ! $ move ! (1 ∷ []) $ pick ! (λ _. split3 ! $ drop ! $ heard ! (r.1 ≡ a) (λ same.
    in_a_block ! r.0 (λ p. box_owns (g.dealloc_token a) (R E) p x)
    (fst∗ 𝓤 (never 𝓤) (sem 𝓛 (g.dealloc_token a (bare (layout T)) null_ptr))) (λ b' o' at'.
    move ! (1 ∷ []) $ split ! $ move ! (1 ∷ [])
    $ fpick ! (λ vss. fsplit ! $ feq_l ! (λ pair_is. fsplit ! $ feq_l ! (λ at_is. fsplit ! $
    rewrite ! 0 (λ (s : A.Denot). ‵ (A.own_val s vss.1.0)) same refl
    $ handle_tells E.al ! a vss.1.0 (λ h' handle_is fits'.
    let w' : Val = word E h' b' o' in let good' = box_typed E h' b' o' fits' in
    let made : To.Denot = record { at = block_ptr b' o'; alloc = a; value = x } in
    lands_as !
    (ap only
    (pair_is
    ∙ (λ j. vstruct
    (of_list ((at_is ∙ ap (λ (p : Ptr). ptr_val p ∷ []) at') j ++ (handle_is j ++ []))) ∷ []))) refl
    good' $
    sets ! (of_opd ! (get_in ! (fld ! refl (stop !)) (sub ! 0 refl (whole !)))) refl (tt, tt)
    $ sets ! (of_opd ! (get_in ! (fld ! refl (stop !)) (sub ! 1 refl (whole !)))) refl fits' $
    sets ! (of_opd ! (get ! refl)) refl fits'
    $ sets ! (agg ! (and_then ! (get ! refl) (and_then ! (get ! refl) (no_more !)))) refl good'
    $ returns ! (look_at ! 0 refl) $ free_all ! refl $
    -- [the handle; true; the tokens; what the parts own]
    move ! (3 ∷ []) $ fsplit !
    $ box_in E ! (record { ptr = block_ptr b' o'; alloc = a; value = x }) b' o' x refl refl
    $ use1 𝓛 (‵ (To.own_val made (w' ∷ []))) (id⊢ 𝓤 _) $
    use0 𝓛 (raw (fact 𝓤 (made.value ≡ x))) (fact_i 𝓤 _ (emp 𝓤) refl) $ nothing ! $ nothing !
    $ fjoin !
    $ keep ! (4 ∷ 0 ∷ 2 ∷ 1 ∷ [])
    $ by ! (leaves 𝓛 En hs c z w' made ((tt, (tt, tt)), tt) (tt, tt))))))))))))))
