-- One more call of a run.
use Rattle.std.proofs.Common.{◌≡◌, ℕ, zero, suc, ◌+◌, ◌<◌, ◌≤◌, arith, get_or}
use Rattle.std.proofs.Common.{append-nil, append_assoc, List, [], ◌∷◌, ◌++◌, length}
use Rattle.std.proofs.Common.{take, drop, Some, refl, sym, ◌∙◌, ap, add-one}
use Rattle.std.specs.Prelude.{slice_get}
use Rattle.std.proofs.lemmas.List.{drop_all, take_all}
use Rattle.stun_auth.specs.Validation.{ServerSeen}
use Rattle.stun_proto.specs.Serving.{Reply, reply, after_call, replies, after_calls}
use Rattle.stun_proto.specs.declared.replay.call.ServerCall.{ServerCall}

-- a call at an index of the list
at_index : (calls : List ServerCall) (i : ℕ) (d : ServerCall) → i < length calls
    → slice_get calls i ≡ Some (get_or calls i d)
at_index [] i d h = absurd (omega arith)
at_index (c ∷ calls) zero d h = refl
at_index (c ∷ calls) (suc i) d h = at_index calls i d (omega arith)

pub call_at : (calls : List ServerCall) (i : ℕ) (call : ServerCall) → i < length calls
    → call ≡ get_or calls i call → slice_get calls i ≡ Some call
call_at calls i call h is = at_index calls i call h ∙ ap Some (sym is)

after_calls-suc : (s : ServerSeen) (calls : List ServerCall) (i : ℕ) (call : ServerCall)
    → slice_get calls i ≡ Some call
    → after_calls s (take (suc i) calls) ≡ after_call (after_calls s (take i calls)) call
after_calls-suc s [] i call h = cc
after_calls-suc s (c ∷ calls) zero call h = let same : c ≡ call = cc in ap (after_call s) same
after_calls-suc s (c ∷ calls) (suc i) call h = after_calls-suc (after_call s c) calls i call h

replies-suc : (s : ServerSeen) (calls : List ServerCall) (i : ℕ) (call : ServerCall)
    → slice_get calls i ≡ Some call
    → replies s (drop i calls) ≡ reply s call ∷ replies (after_call s call) (drop (suc i) calls)
replies-suc s [] i call h = cc
replies-suc s (c ∷ calls) zero call h = let same : c ≡ call =
    cc in ap (λ x. reply s x ∷ replies (after_call s x) calls) same
replies-suc s (c ∷ calls) (suc i) call h = replies-suc s calls i call h

-- once no call is left, the replies are those to all
pub told_all : (s t : ServerSeen) (told : List Reply) (calls : List ServerCall) (i : ℕ)
    → length calls ≤ i → told ++ replies t (drop i calls) ≡ replies s calls → told ≡ replies s calls
told_all s t told calls i h e =
    sym (append-nil told) ∙ ap (λ cs. told ++ replies t cs) (sym (drop_all i calls h)) ∙ e

pub served_all : (s t : ServerSeen) (calls : List ServerCall) (i : ℕ) → length calls ≤ i
    → t ≡ after_calls s (take i calls) → t ≡ after_calls s calls
served_all s t calls i h e = e ∙ ap (after_calls s) (take_all i calls h)

-- one more call is done
pub served_more : (s t new : ServerSeen) (calls : List ServerCall) (i : ℕ) (call : ServerCall)
    → slice_get calls i ≡ Some call
    → t ≡ after_calls s (take i calls) → new ≡ after_call t call
    → new ≡ after_calls s (take (i + 1) calls)
served_more s t new calls i call at served e =
    e ∙ ap (λ u. after_call u call) served ∙ sym (after_calls-suc s calls i call at)
    ∙ ap (λ n. after_calls s (take n calls)) (sym (add-one i))

-- one more reply is told
pub told_more : (s t new : ServerSeen) (told more : List Reply) (r : Reply)
    (calls : List ServerCall) (i : ℕ) (call : ServerCall) → slice_get calls i ≡ Some call
    → told ++ replies t (drop i calls) ≡ replies s calls → r ≡ reply t call
    → new ≡ after_call t call → more ≡ told ++ r ∷ []
    → more ++ replies new (drop (i + 1) calls) ≡ replies s calls
told_more s t new told more r calls i call at so_far reply_is new_is more_is =
    ap (λ n. more ++ replies new (drop n calls)) (add-one i)
    ∙ ap (λ x. x ++ replies new (drop (suc i) calls)) more_is
    ∙ append_assoc told (r ∷ []) (replies new (drop (suc i) calls))
    ∙ ap (λ x. told ++ x)
    (ap (λ y. y ∷ replies new (drop (suc i) calls)) reply_is
    ∙ ap (λ u. reply t call ∷ replies u (drop (suc i) calls)) new_is
    ∙ sym (replies-suc t calls i call at))
    ∙ so_far
