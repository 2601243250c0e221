-- The times that a request awaits by its plan, and what a search finds first.
use Rattle.std.proofs.Common.{◌+◌, ◌≡◌, ◌<◌, ◌≤◌, [], ◌∷◌, ◌∙◌, ℕ, zero, suc, Bool, true, false}
use Rattle.std.proofs.Common.{cond, List, ap, arith, inl, inr, min, refl, subst, sym}
use Rattle.std.specs.BTreeMap.{is_at}
use Rattle.std.specs.Cmp.{nat_cmp_is}
use Rattle.std.specs.List.{AllByRecursion}
use Rattle.std.specs.List.Sorted.{IsStrictlySortedBy}
use Rattle.std.specs.Map.{lookup, keys_of}
use Rattle.std.specs.Option.{option_map_or}
use Rattle.std.specs.Ordering.{nat_cmp}
use Rattle.std.specs.Prelude.{Some, find, nat_le, nat_lt}
use Rattle.std.specs.declared.cmp.Ordering.TheVariants.{Less, Equal, Greater}
use Rattle.std.proofs.lemmas.Bool.{cases_lt, leb-true, le-ltb, lt-ltb}
use Rattle.std.proofs.lemmas.Map.Keys.{sorted_head, sorted_tail}
use Rattle.stun_base.specs.Moments.{last_moment, moment_after}
use Rattle.stun_base.specs.declared.wire.transport.TransportType.{TransportType}
use Rattle.stun_agent.specs.Timing.{Settings, final_wait, planned_end, slots, sum_of_timeouts}
use Rattle.stun_agent.specs.Timing.{timeout}
use Rattle.stun_agent.proofs.EntryLemmas.{same_key}
use Rattle.stun_agent.proofs.TimingLemmas.{sum_of_timeouts-add_one, sum_of_timeouts-zero}
use Rattle.stun_client_plans.specs.Plan.{ComesWithin}

-- ---- the times of a plan

-- the k-th transmission
abbrev pub sent_at : ℕ → Settings → ℕ → ℕ
sent_at start settings k = moment_after start (sum_of_timeouts settings k)

-- the time that a request awaits after k timeouts
abbrev pub awaited_after : ℕ → TransportType → Settings → ℕ → ℕ
awaited_after start transport settings k =
    moment_after (sent_at start settings k)
    (cond (nat_lt k (slots transport settings)) (timeout settings k)
    (final_wait transport settings))

module _ (start : ℕ) (transport : TransportType) (settings : Settings) where
  pub awaited_slot : (k left : ℕ) → k + suc left ≡ slots transport settings
      → awaited_after start transport settings k ≡ sent_at start settings (k + 1)
  awaited_slot k left all =
      ap (λ b. moment_after (sent_at start settings k)
      (cond b (timeout settings k) (final_wait transport settings)))
      (lt-ltb k (slots transport settings) (omega (arith, all)))
      ∙ capped (sum_of_timeouts settings k) (timeout settings k)
      ∙ ap (moment_after start) (sym (sum_of_timeouts-add_one settings k))
    where
      capped : (m w : ℕ) → moment_after (moment_after start m) w ≡ moment_after start (m + w)
      capped m w = omega arith

  pub awaited_end : (k : ℕ) → k + 0 ≡ slots transport settings
      → awaited_after start transport settings k ≡ planned_end transport settings start
  awaited_end k last =
      let same : k ≡ slots transport settings = omega (arith, last) in
      ap (λ b. moment_after (sent_at start settings k)
      (cond b (timeout settings k) (final_wait transport settings)))
      (le-ltb k (slots transport settings) (omega (arith, same)))
      ∙ ap (λ n. moment_after (sent_at start settings n) (final_wait transport settings)) same
      ∙ capped (sum_of_timeouts settings (slots transport settings)) (final_wait transport settings)
    where
      capped : (m w : ℕ) → moment_after (moment_after start m) w ≡ moment_after start (m + w)
      capped m w = omega arith

  pub le_awaited : (k : ℕ)
      → sent_at start settings k ≤ awaited_after start transport settings k
  le_awaited k =
      later (start + sum_of_timeouts settings k)
      (cond (nat_lt k (slots transport settings)) (timeout settings k)
      (final_wait transport settings))
    where
      later : (m w : ℕ) → min m last_moment ≤ min (min m last_moment + w) last_moment
      later m w = omega arith

  pub awaited_up_to_end : (left k : ℕ) → k + left ≡ slots transport settings
      → awaited_after start transport settings k ≤ planned_end transport settings start
  awaited_up_to_end zero k all = let last = awaited_end k all in omega (arith, last)
  awaited_up_to_end (suc left) k all =
      let here = awaited_slot k left all in
      let next = le_awaited (k + 1) in
      let rest = awaited_up_to_end left (k + 1) (omega (arith, all)) in
      omega (arith, here, next, rest)

-- one more timeout
pub one_more : (k : ℕ) → k + 1 ≡ suc k
one_more k = omega arith

-- a wait that begins late ends late, and not more
pub late_wait : (late so_late sent wait last due now : ℕ) → ComesWithin so_late sent last
    → due ≤ moment_after last wait → moment_after last wait ≤ now → now ≤ due + late
    → ComesWithin late (moment_after last wait) now
    × ComesWithin (so_late + late) (moment_after sent wait) now
late_wait late so_late sent wait last due now was low come soon = (
  record { no_earlier = come; no_later = omega (arith, low, soon) },
  record {
    no_earlier = later sent wait last now was.no_earlier come;
    no_later = no_later sent wait last due now was.no_later low soon;
  },
)
  where
    later : (sent wait last now : ℕ) → sent ≤ last → min (last + wait) last_moment ≤ now
        → min (sent + wait) last_moment ≤ now
    later sent wait last now before come = omega (arith, before, come)

    no_later : (sent wait last due now : ℕ) → last ≤ sent + so_late
        → due ≤ min (last + wait) last_moment → now ≤ due + late
        → now ≤ min (sent + wait) last_moment + (so_late + late)
    no_later sent wait last due now before low soon = omega (arith, before, low, soon)

-- ---- transmissions that come after the plan

-- the first timeouts are no longer than more of them
sums_up : (settings : Settings) (left k : ℕ)
    → sum_of_timeouts settings k ≤ sum_of_timeouts settings (k + left)
sums_up settings zero k =
    let same : sum_of_timeouts settings (k + 0) ≡ sum_of_timeouts settings k =
    ap (sum_of_timeouts settings) (none_more k) in
    omega (arith, same)
  where
    none_more : (n : ℕ) → n + 0 ≡ n
    none_more n = omega arith
sums_up settings (suc left) k =
    let next : sum_of_timeouts settings (k + suc left)
    ≡ sum_of_timeouts settings (k + left) + timeout settings (k + left) =
    ap (sum_of_timeouts settings) (one_later k left)
    ∙ sum_of_timeouts-add_one settings (k + left) in
    let rest = sums_up settings left k in
    omega (arith, next, rest)
  where
    one_later : (n m : ℕ) → n + suc m ≡ (n + m) + 1
    one_later n m = omega arith

-- if a transmission comes after the end of the plan, polls are late together by more than the last
-- wait
pub late_together : (start : ℕ) (transport : TransportType) (settings : Settings)
    (left k all_late now : ℕ) → k + left ≡ slots transport settings
    → ComesWithin all_late (sent_at start settings k) now
    → planned_end transport settings start < now
    → planned_end transport settings start < last_moment → final_wait transport settings < all_late
late_together start transport settings left k all_late now all comes over_it less =
    longer (sum_of_timeouts settings k) (sum_of_timeouts settings (slots transport settings))
    (final_wait transport settings) sums comes.no_later over_it less
  where
    sums : sum_of_timeouts settings k ≤ sum_of_timeouts settings (slots transport settings)
    sums = subst (λ n. sum_of_timeouts settings k ≤ sum_of_timeouts settings n) all
        (sums_up settings left k)

    longer : (some whole wait : ℕ) → some ≤ whole → now ≤ min (start + some) last_moment + all_late
        → min (start + (whole + wait)) last_moment < now
        → min (start + (whole + wait)) last_moment < last_moment → wait < all_late
    longer some whole wait up no_later over_it less = omega (arith, up, no_later, over_it, less)

-- a plan that starts in time starts at its first time
pub first_moment : (start : ℕ) (settings : Settings) → start ≤ last_moment
    → sent_at start settings 0 ≡ start
first_moment start settings low =
    ap (moment_after start) (sum_of_timeouts-zero settings) ∙ same
  where
    same : moment_after start 0 ≡ start
    same = omega (arith, low)

-- ---- searches

-- what holds of each key holds of one that is looked up
pub looked_among : {X : Type 0} (P : ℕ → Type 0) (es : List (ℕ × X)) (k : ℕ) (v : X)
    → AllByRecursion P (keys_of es) → lookup (is_at (nat_cmp k)) es ≡ Some v → P k
looked_among P [] k v all here = cc
looked_among {X} P (e ∷ es) k v all here =
    by (is_at (nat_cmp k) e.0) refl here (looked_among P es k v all.1)
  where
    by : (b : Bool) → is_at (nat_cmp k) e.0 ≡ b
        → cond b (Some e.1) (lookup (is_at (nat_cmp k)) es) ≡ Some v
        → (lookup (is_at (nat_cmp k)) es ≡ Some v → P k) → P k
    by true is here rest = subst P (same_key k e.0 is) all.0
    by false is here rest = rest here

-- a number that is less comes before
less_is : (x k : ℕ) → nat_cmp x k ≡ Less → x < k
less_is x k is = elim (cases_lt x k) [
  | inl less ↦ less
  | inr above ↦ elim (cases_lt k x) [
    | inl greater ↦ let other : Greater ≡ nat_cmp x k = nat_cmp_is x k Greater greater in cc
    | inr below ↦
        let same : x ≡ k = omega (arith, above, below) in
        let other : Equal ≡ nat_cmp x k = nat_cmp_is x k Equal same in
        cc
  ]
]

-- what a search finds comes first: what passes its test, and comes no later, is the same
pub found_first : {X : Type 0} (p : ℕ × X → Bool) (es : List (ℕ × X)) (k : ℕ) (v : X)
    (e : ℕ × X) → IsStrictlySortedBy nat_cmp (keys_of es)
    → lookup (is_at (nat_cmp k)) es ≡ Some v → p (k, v) ≡ true → find p es ≡ Some e
    → nat_le k e.0 ≡ true → e.0 ≡ k
found_first p [] k v e sorted here passes found before = cc
found_first {X} p (x ∷ xs) k v e sorted here passes found before =
    by (is_at (nat_cmp k) x.0) (p x) refl refl here found
    (λ there among. found_first p xs k v e (sorted_tail nat_cmp x.0 (keys_of xs) sorted)
    there passes among before)
  where
    by : (b c : Bool) → is_at (nat_cmp k) x.0 ≡ b → p x ≡ c
        → cond b (Some x.1) (lookup (is_at (nat_cmp k)) xs) ≡ Some v
        → cond c (Some x) (find p xs) ≡ Some e
        → (lookup (is_at (nat_cmp k)) xs ≡ Some v → find p xs ≡ Some e → e.0 ≡ k) → e.0 ≡ k
    by true true at_it is here found rest =
        let key : x.0 ≡ k = same_key k x.0 at_it in
        let same : x.0 ≡ e.0 = ap (λ o. option_map_or (λ (y : ℕ × X). y.0) o 0) found in
        sym same ∙ key
    by true false at_it is here found rest =
        let key : x.0 ≡ k = same_key k x.0 at_it in
        let value : x.1 ≡ v = cc in
        let fails : p (k, v) ≡ false = ap p (λ i. (sym key i, sym value i)) ∙ is in
        cc
    by false true at_it is here found rest =
        let same : x.0 ≡ e.0 = ap (λ o. option_map_or (λ (y : ℕ × X). y.0) o 0) found in
        let low : k ≤ e.0 = leb-true k e.0 before in
        let less : x.0 < k =
        less_is x.0 k
        (looked_among (λ y. nat_cmp x.0 y ≡ Less) xs k v
        (sorted_head nat_cmp x.0 (keys_of xs) sorted)
        here) in
        absurd (omega (arith, same, low, less))
    by false false at_it is here found rest = rest here found
