-- Counting is adding, and a request is outstanding until it is counted as met.
use Rattle.std.proofs.Common.{◌≡◌, ℕ, zero, suc, ◌+◌, ◌≤◌, ◌⊎◌, inl, inr, max}
use Rattle.std.proofs.Common.{Some, None, refl, min, List, [], ◌∷◌, sym, ap, ◌∙◌, arith}
use Rattle.std.proofs.Common.{add-zero, append-nil, length-append}
use Rattle.std.specs.Prelude.{All, Contains, Option, fold}
use Rattle.std.specs.Option.{option_map_or}
use Rattle.std.proofs.lemmas.List.Elements.{All-nil, All-cons, All-head, All-tail}
use Rattle.std.proofs.lemmas.List.Sums.{sum_by-append, sum_by-cons, fold-append}
use Rattle.stun_agent.specs.Statistics.{Statistics, Tally, statistics_after, together, total}
use Rattle.stun_agent.specs.Statistics.{no_tally}
use Rattle.stun_agent.specs.Statistics.{new_statistics, counted_in_turn, least, greatest}
use Rattle.stun_agent.specs.Statistics.{IsLeast, IsGreatest, LeavesOutstanding, IsNotFull}

-- adding twice under one cap is adding the sum. A counter and the sum of the round trips are capped
capped-capped : (cap n a b : ℕ) → min (min (n + a) cap + b) cap ≡ min (n + (a + b)) cap
capped-capped cap n a b = omega arith

pub statistics_after-statistics_after : (first second : Tally) (s : Statistics)
    → statistics_after second (statistics_after first s)
    ≡ statistics_after (together first second) s
statistics_after-statistics_after first second s =
    simp (capped-capped, length-append, sum_by-append, fold-append)

total-cons : (tally : Tally) (tallies : List Tally)
    → total (tally ∷ tallies) ≡ together tally (total tallies)
total-cons tally tallies = simp (sum_by-cons {X = Tally})

-- nothing more to count, after something that was counted
pub statistics_after-statistics_after-nothing : (tally : Tally) (s : Statistics)
    → statistics_after no_tally (statistics_after tally s) ≡ statistics_after tally s
statistics_after-statistics_after-nothing tally s =
    statistics_after-statistics_after tally no_tally s ∙ simp (add-zero, append-nil)

counted_in_turn-statistics_after : (tally : Tally) (s : Statistics) (tallies : List Tally)
    → counted_in_turn tallies (statistics_after tally s)
    ≡ statistics_after (total tallies) (statistics_after tally s)
counted_in_turn-statistics_after tally s [] =
    sym (statistics_after-statistics_after-nothing tally s)
counted_in_turn-statistics_after tally s (next ∷ tallies) =
    counted_in_turn-statistics_after next (statistics_after tally s) tallies
    ∙ statistics_after-statistics_after next (total tallies) (statistics_after tally s)
    ∙ sym (ap (λ t. statistics_after t (statistics_after tally s)) (total-cons next tallies))

pub counted_in_turn-new : (tallies : List Tally)
    → counted_in_turn tallies new_statistics ≡ statistics_after (total tallies) new_statistics
counted_in_turn-new tallies = counted_in_turn-statistics_after no_tally new_statistics tallies

pub LeavesOutstanding-statistics_after : (tally : Tally) (s : Statistics) (before after : ℕ)
    → LeavesOutstanding s before → IsNotFull (statistics_after tally s)
    → before + tally.requests_sent
    ≡ after + (tally.responses_received + tally.timed_out + tally.cancelled)
    → LeavesOutstanding (statistics_after tally s) after
LeavesOutstanding-statistics_after tally s before after held room same =
    let a = room.requests_sent in
    let b = room.responses_received in
    let c = room.transactions_timed_out in
    let d = room.transactions_cancelled in
    omega arith

-- ---- the shortest and the longest round trip, by one lemma

-- choosing one of two numbers, which then stands as it must to both
record IsChoice (choose : ℕ → ℕ → ℕ) (Stands : ℕ → ℕ → Type 0) : Type 0 where
  one : (m n : ℕ) → (choose m n ≡ m) ⊎ (choose m n ≡ n)
  itself : (m : ℕ) → Stands m m
  both : (found m n : ℕ) → Stands found (choose m n) → Stands found m × Stands found n

min-chooses : IsChoice min (λ found n. found ≤ n)
min-chooses =
    record {
      one = λ m n. grind arith;
      itself = λ m. omega arith;
      both = λ found m n below. (omega arith, omega arith);
    }

max-chooses : IsChoice max (λ found n. n ≤ found)
max-chooses =
    record {
      one = λ m n. grind arith;
      itself = λ m. omega arith;
      both = λ found m n above. (omega arith, omega arith);
    }

-- the one among a number that may be there and these
abbrev choice_among : (ℕ → ℕ → ℕ) → Option ℕ → List ℕ → Option ℕ
choice_among choose first others =
    fold (λ found other. Some (option_map_or (choose other) found other)) first others

record ChosenFrom (choose : ℕ → ℕ → ℕ) (Stands : ℕ → ℕ → Type 0) (m : ℕ) (xs : List ℕ)
    : Type 0 where
  found : ℕ
  is : choice_among choose (Some m) xs ≡ Some found
  member : Contains (m ∷ xs) found
  bound : All (Stands found) (m ∷ xs)

-- what was found among a choice of two and the rest is among all
Contains-choice : (choose : ℕ → ℕ → ℕ) (x m : ℕ) (xs : List ℕ) (found : ℕ)
    → (choose x m ≡ x) ⊎ (choose x m ≡ m) → Contains (choose x m ∷ xs) found
    → Contains (m ∷ x ∷ xs) found
Contains-choice choose x m xs found (inl first) (zero, within, is) =
    (1, omega arith, sym first ∙ is)
Contains-choice choose x m xs found (inr second) (zero, within, is) =
    (0, omega arith, sym second ∙ is)
Contains-choice choose x m xs found one (suc i, within, is) = (suc (suc i), omega arith, is)

chosen_from : (choose : ℕ → ℕ → ℕ) (Stands : ℕ → ℕ → Type 0) → IsChoice choose Stands
    → (m : ℕ) (xs : List ℕ) → ChosenFrom choose Stands m xs
chosen_from choose Stands choice m [] =
    record {
      found = m;
      is = refl;
      member = (0, omega arith, refl);
      bound = All-cons (Stands m) m [] (choice.itself m) (All-nil (Stands m));
    }
chosen_from choose Stands choice m (x ∷ xs) =
    let rest = chosen_from choose Stands choice (choose x m) xs in
    let P = Stands rest.found in
    let both = choice.both rest.found x m (All-head P (choose x m) xs rest.bound) in
    let others : All P xs = All-tail P (choose x m) xs rest.bound in
    record {
      found = rest.found;
      is = rest.is;
      member = Contains-choice choose x m xs rest.found (choice.one x m) rest.member;
      bound = All-cons P m (x ∷ xs) both.1 (All-cons P x xs both.0 others);
    }

pub IsLeast-none : (xs : List ℕ) → IsLeast xs (least None xs)
IsLeast-none [] = refl
IsLeast-none (x ∷ xs) =
    let all = chosen_from min (λ found n. found ≤ n) min-chooses x xs in
    rw all.is (all.member, all.bound)

pub IsGreatest-none : (xs : List ℕ) → IsGreatest xs (greatest None xs)
IsGreatest-none [] = refl
IsGreatest-none (x ∷ xs) =
    let all = chosen_from max (λ found n. n ≤ found) max-chooses x xs in
    rw all.is (all.member, all.bound)
