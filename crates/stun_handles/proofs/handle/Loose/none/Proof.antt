-- No box: the flag and the pointer are zero, and nothing is owned.
use Rattle.stun_handles.proofs.Steps.{◌≡◌, [], ◌∷◌, refl, lit<, proved_at, leaves, emp, id⊢, fact}
use Rattle.stun_handles.proofs.Steps.{fact_i, tables, a_type, inst_fn, Val, ‵, raw, ◌⊛◌, ◌$◌, ◌∵◌, ! }
use Rattle.stun_handles.proofs.Steps.{qed, by, keep, use0, use1, split, agg, enter, lit, false_lit}
use Rattle.stun_handles.proofs.Steps.{no_more, and_then, returns, alloc_all, pass_all, free_all}
use Rattle.stun_handles.proofs.Steps.{look_at, sets, param, layouts, RattleType, owns, null_ptr}
use Rattle.stun_handles.proofs.Steps.{types_at, type_at, nothing, alive, Stays, false, None}
use Rattle.stun_handles.proofs.Words.{word, closed}
use Rattle.stun_handles.specs.code.Handle.{handle_owns, full_or_empty}
use Rattle.stun_handles.specs.contracts.handle.Loose.none.{ended, clauses}
use Rattle.stun_handles.specs.contracts.handle.Loose.none.Key.{name as #self}
use Rattle.stun_handles.proofs.handle.Loose.none.Statement.{statement}
use Rattle.stun_handles.proofs.handle.Loose.none.Code as code

pub none_spec : {M : Type 1} → statement M
unfolding full_or_empty
none_spec 𝓤 𝓛 𝓜 𝓡 wired T L =
    let H = 𝓛.H in let 𝓣 = tables 𝓤 H 𝓜 𝓡 𝓡.env in let R : RattleType = param 0 T in let En =
    ended T in let c = clauses T 𝓛 𝓜.mem 𝓡.returns in
    let inst = layouts (a_type ∷ []) (T, tt) in let fn = inst_fn inst code.function in
    let hs : Stays En.signature.params En.kept = tt in
    proved_at 𝓛 En hs c 𝓜 𝓡 tt (#self inst) fn (code.unfolded 𝓤 H 𝓜 𝓡 wired (T, tt)) (λ z are.
    let κs = z.0.0 in let qs = z.0.1 in let zero : Val = word false null_ptr in
    let h : (type_at En.signature.result κs).Denot =
    record { is_full = false; at = null_ptr; state = None } in
    qed 𝓛 ((raw (alive 𝓛 En.signature κs qs)
    ⊛ ‵ (owns (types_at En.signature.params κs) z.0.3 z.0.4)) ∷ raw ((c κs z.0.3).requires z.1)
    ∷ []) ∵ split !
    $ enter ! 𝓣.C 𝓣.Λ fn [] _ $ alloc_all ! (λ l. pass_all ! refl tt $
    sets ! (agg ! (and_then ! (false_lit !) (and_then ! (lit ! tt) (no_more !)))) refl (
      tt,
      (tt, (record { fits = lit< tt }, tt)),
    ) $
    returns ! (look_at ! 0 refl) $ free_all ! refl $
    nothing ! $ use1 𝓛 (‵ (handle_owns R false null_ptr None)) (id⊢ 𝓤 _)
    $ closed R ! false null_ptr None $
    use0 𝓛 (raw (fact 𝓤 (h.state ≡ None))) (fact_i 𝓤 _ (emp 𝓤) refl) $
    keep ! (2 ∷ 3 ∷ 1 ∷ 0 ∷ []) $ by ! (leaves 𝓛 En hs c z zero h tt tt)))
