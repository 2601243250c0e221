-- A plan that is cut at a time.
use Rattle.std.proofs.Common.{ℕ, zero, suc, ◌≡◌, ◌+◌, ◌-◌, ◌*◌, ◌<◌, ◌≤◌, ◌⊎◌, Bool, true, false}
use Rattle.std.proofs.Common.{cond, min, max, refl, sym, subst, ◌∙◌, ap, ap₂, arith, inl, inr}
use Rattle.std.proofs.Common.{add-zero}
use Rattle.std.proofs.Math.Nat.{add-suc}
use Rattle.std.proofs.lemmas.Bool.{cases_lt, le-leb, le-ltb, lt-leb, lt-ltb}
use Rattle.std.specs.Duration.{max_nanos}
use Rattle.std.specs.Prelude.{nat_lt}
use Rattle.stun_agent.specs.Timing.{Settings, timeout, sum_of_timeouts, repetitions}
use Rattle.stun_agent.specs.Timing.{plan_length, timeouts_before, cut}
use Rattle.stun_agent.proofs.TimingLemmas.{sum_of_timeouts-split}

-- ---- the sums of timeouts rise
sum_rises_by : (settings : Settings) (i k : ℕ)
    → sum_of_timeouts settings i ≤ sum_of_timeouts settings (i + k)
unfolding sum_of_timeouts
sum_rises_by settings i zero = rw add-zero (omega arith)
sum_rises_by settings i (suc k) =
    let rest = sum_rises_by settings i k in
    rw (add-suc i k) (omega (arith, rest))

sum_rises : (settings : Settings) (i j : ℕ) → i ≤ j
    → sum_of_timeouts settings i ≤ sum_of_timeouts settings j
sum_rises settings i j le =
    let same : i + (j - i) ≡ j = omega (arith, le) in
    subst (λ k. sum_of_timeouts settings i ≤ sum_of_timeouts settings k) same
    (sum_rises_by settings i (j - i))

suc_times : (k n : ℕ) → (k + 1) * n ≡ k * n + n
suc_times k n = grind arith

module _ (time : ℕ) (settings : Settings) where
  abbrev sum : ℕ → ℕ
  sum k = sum_of_timeouts settings k

  abbrev tested : Bool → ℕ → ℕ
  tested b k = cond b (suc k) (timeouts_before time settings k)

  before-suc : (k : ℕ) → timeouts_before time settings (suc k)
      ≡ tested (nat_lt (sum (suc k)) time) k
  unfolding timeouts_before
  before-suc k = refl

  before-zero : timeouts_before time settings 0 ≡ 0
  unfolding timeouts_before
  before-zero = refl

  -- if the next one is shorter than the time, it is the most
  before_more : (k : ℕ) → sum (suc k) < time → timeouts_before time settings (suc k) ≡ suc k
  before_more k less = before-suc k ∙ ap (λ b. tested b k) (lt-ltb _ _ less)

  before_as_many : (k : ℕ) → time ≤ sum (suc k)
      → timeouts_before time settings (suc k) ≡ timeouts_before time settings k
  before_as_many k le = before-suc k ∙ ap (λ b. tested b k) (le-ltb _ _ le)

  sum_of_none : sum 0 ≤ time
  unfolding sum_of_timeouts
  sum_of_none = omega arith

  -- ---- the most
  pub before_is : (n k : ℕ) → n ≤ k → (n ≡ 0) ⊎ (sum n < time)
      → (n ≡ k) ⊎ (time ≤ sum (n + 1)) → timeouts_before time settings k ≡ n
  before_is n zero most fits next = before-zero ∙ omega (arith, most)
  before_is n (suc k) most fits next =
      elim (cases_lt k n) [
        | inl last ↦
            let all : suc k ≡ n = omega (arith, most, last) in
            let less : sum (suc k) < time =
            elim fits [
              | inl none ↦ absurd (omega (arith, none, last))
              | inr shorter ↦ subst (λ m. sum m < time) (sym all) shorter
            ] in
            before_more k less ∙ all
        | inr within ↦
            let longer : time ≤ sum (n + 1) =
            elim next [
              | inl end ↦ absurd (omega (arith, end, within))
              | inr longer ↦ longer
            ] in
            let rising = sum_rises settings (n + 1) (suc k) (omega (arith, within)) in
            before_as_many k (omega (arith, longer, rising))
            ∙ before_is n k within fits (inr longer)
      ]

  before_within : (k : ℕ) → sum (timeouts_before time settings k) ≤ time
  before_within zero = subst (λ m. sum m ≤ time) (sym before-zero) sum_of_none
  before_within (suc k) =
      elim (cases_lt (sum (suc k)) time) [
        | inl less ↦
            subst (λ m. sum m ≤ time) (sym (before_more k less)) (omega (arith, less))
        | inr le ↦
            subst (λ m. sum m ≤ time) (sym (before_as_many k le)) (before_within k)
      ]

  before_most : (k : ℕ) → timeouts_before time settings k ≤ k
  before_most zero = rw before-zero (omega arith)
  before_most (suc k) =
      elim (cases_lt (sum (suc k)) time) [
        | inl less ↦ rw (before_more k less) (omega arith)
        | inr le ↦
            let rest = before_most k in
            rw (before_as_many k le) (omega (arith, rest))
      ]

  before_all : (i k : ℕ) → i ≤ k → sum i < time → i ≤ timeouts_before time settings k
  before_all i zero most less = rw before-zero most
  before_all i (suc k) most less =
      elim (cases_lt (sum (suc k)) time) [
        | inl shorter ↦ rw (before_more k shorter) most
        | inr le ↦
            elim (cases_lt k i) [
              | inl last ↦
                  let same : suc k ≡ i = omega (arith, most, last) in
                  absurd (let own = subst (λ m. time ≤ sum m) same le in omega (arith, own, less))
              | inr within ↦ rw (before_as_many k le) (before_all i k within less)
            ]
      ]

  -- the timeouts that may rise, and then equal ones
  module _ (all rising more : ℕ) (long : timeout settings 94 ≤ max_nanos)
      (is : rising ≡ min all 94) (few : more ≤ all - rising) where
    abbrev wait : ℕ
    wait = timeout settings 94

    pub sum_past : sum (rising + more) ≡ sum rising + more * wait
    sum_past =
        let same : rising + more - rising ≡ more = omega arith in
        let least : rising ≡ min (rising + more) 94 = omega (arith, is, few) in
        sym (ap (λ k. sum rising + k * wait) (sym same)
        ∙ sum_of_timeouts-split settings (rising + more) rising long least)

    one_more : rising < all → sum (rising + more + 1) ≡ sum rising + (more * wait + wait)
    one_more past =
        let same : rising + more + 1 - rising ≡ more + 1 = omega arith in
        let least : rising ≡ min (rising + more + 1) 94 = omega (arith, is, past) in
        sym (ap (λ k. sum rising + k * wait) (sym same)
        ∙ sum_of_timeouts-split settings (rising + more + 1) rising long least)
        ∙ ap (λ n. sum rising + n) (suc_times more wait)

    pub before_past : (rising ≡ 0) ⊎ (sum rising < time) → sum rising ≤ time
        → (more ≡ 0) ⊎ (more * wait < time - sum rising)
        → (more ≡ all - rising) ⊎ (time - sum rising ≤ more * wait + wait)
        → timeouts_before time settings all ≡ rising + more
    before_past passed within fit next =
        before_is (rising + more) all (omega (arith, is, few)) fits longer
      where
        fits : (rising + more ≡ 0) ⊎ (sum (rising + more) < time)
        fits = elim fit [
          | inl none ↦
              let same : rising + more ≡ rising = omega (arith, none) in
              subst (λ k. (k ≡ 0) ⊎ (sum k < time)) (sym same) passed
          | inr less ↦ inr (omega (arith, sum_past, less, within))
        ]

        longer : (rising + more ≡ all) ⊎ (time ≤ sum (rising + more + 1))
        longer = elim (cases_lt rising all) [
          | inl past ↦ elim next [
            | inl end ↦ inl (omega (arith, end, past))
            | inr le ↦ inr (omega (arith, one_more past, le))
          ]
          | inr end ↦ inl (omega (arith, end, few, is))
        ]

  -- ---- the plan that is cut
  abbrev count : ℕ
  count = timeouts_before time settings (repetitions settings)

  abbrev shorter : Settings
  shorter = record settings { transmissions = count + 1; last_wait = time - sum count }

  abbrev chosen : Bool → Settings
  chosen b = cond b settings shorter

  pub whole : plan_length settings ≤ time → cut time settings ≡ settings
  whole le = ap chosen (le-leb _ _ le)

  pub cut_short : time < plan_length settings → cut time settings ≡ shorter
  cut_short less = ap chosen (lt-leb _ _ less)

  pub cut_is : time < plan_length settings → (n w : ℕ) → n ≡ count → w ≡ time - sum n
      → record settings { transmissions = n + 1; last_wait = w } ≡ cut time settings
  cut_is less n w is rest =
      ap₂ (λ m v. record settings { transmissions = m + 1; last_wait = v }) is
      (rest ∙ ap (λ m. time - sum m) is)
      ∙ sym (cut_short less)

  -- what holds of both holds of the plan that is cut
  either_way : (P : Settings → Type 0) → (plan_length settings ≤ time → P settings)
      → (time < plan_length settings → P shorter) → P (cut time settings)
  either_way P one other =
      elim (cases_lt time (plan_length settings)) [
        | inl less ↦ subst P (sym (cut_short less)) (other less)
        | inr le ↦ subst P (sym (whole le)) (one le)
      ]

  sum_of_shorter : (k : ℕ) → sum_of_timeouts shorter k ≡ sum k
  unfolding sum_of_timeouts
  sum_of_shorter zero = refl
  sum_of_shorter (suc k) = ap (λ s. s + timeout settings k) (sum_of_shorter k)

  pub length_of_cut : plan_length (cut time settings) ≡ min time (plan_length settings)
  length_of_cut =
      either_way (λ s. plan_length s ≡ min time (plan_length settings))
      (λ le. omega (arith, le))
      (λ less.
      let same : repetitions shorter ≡ count = omega arith in
      let all = ap (sum_of_timeouts shorter) same ∙ sum_of_shorter count in
      let within = before_within (repetitions settings) in
      omega (arith, all, within, less))

  pub fewer_in_cut : repetitions (cut time settings) ≤ repetitions settings
  fewer_in_cut =
      either_way (λ s. repetitions s ≤ repetitions settings) (λ le. omega arith)
      (λ less. let most = before_most (repetitions settings) in omega (arith, most))

  pub alike_in_cut : (i : ℕ) → timeout (cut time settings) i ≡ timeout settings i
  alike_in_cut i = either_way (λ s. timeout s i ≡ timeout settings i) (λ le. refl) (λ less. refl)

  pub all_in_cut : (i : ℕ) → i ≤ repetitions settings → sum i < time
      → i ≤ repetitions (cut time settings)
  all_in_cut i most less =
      either_way (λ s. i ≤ repetitions s) (λ le. most)
      (λ cut. let all = before_all i (repetitions settings) most less in omega (arith, all))
