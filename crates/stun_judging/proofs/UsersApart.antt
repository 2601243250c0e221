-- A verdict looks at the one user who is named, so a change of another changes nothing.
use Rattle.std.proofs.Common.{[]}
use Rattle.std.proofs.Common.{◌≡◌, ℕ, List, ◌∷◌, map, Option, Some, None, Bool}
use Rattle.std.proofs.Common.{true, false, true≢false, refl, sym, ◌∙◌, ap}
use Rattle.std.specs.Prelude.{◌≢◌, cond}
use Rattle.std.specs.Option.{option_and_then, IfSome}
use Rattle.std.specs.List.{find}
use Rattle.std.specs.Cmp.Lexicographic.{nat_list_cmp_total}
use Rattle.std.specs.FinMap as fin
use Rattle.std.specs.FinMap.Entries.{by_order}
use Rattle.std.specs.Ordering.{eq_by_cmp}
use Rattle.std.specs.declared.cmp.Ordering.TheVariants.{Less, Equal, Greater}
use Rattle.std.proofs.lemmas.Slice.Eq.{bytes_eq-Decides}
use Rattle.stun_base.specs.Keys.{userhash_of}
use Rattle.stun_judging.specs.declared.algorithm_set.AlgorithmSet.{AlgorithmSet}
use Rattle.stun_judging.specs.declared.feature.Feature.{Feature}
use Rattle.stun_judging.specs.Named.{Named, by_name, by_hash, just, named_in, user_of}
use Rattle.stun_judging.specs.OtherUsers.{IsAnother, MeansAnother, secrets_with, with_secret_for}
use Rattle.stun_judging.specs.Reading.{Reading}
use Rattle.stun_judging.specs.Registered.{Registered, UserSecret, name_cmp, user_named}
use Rattle.stun_judging.specs.Verdict.{verdict}
use Rattle.stun_judging.proofs.ListSteps.{find-passes}
use Rattle.stun_judging.proofs.MeantUser.{has_hash, verdict-alone, with_secret}
use Rattle.stun_judging.proofs.UserKeys.{other_name, tied}

-- names that are tied are the same
name_exact : fin.IsAntisymmetric name_cmp
name_exact = fin.slice_cmp-IsAntisymmetric fin.nat_cmp-IsAntisymmetric

-- ---- by name

-- another name has the secret that it had
pub other_secret : (users : Registered) (name : List ℕ) (secret : Option UserSecret)
    (other : List ℕ) → other ≢ name
    → fin.get (secrets_with users.secrets name secret) other ≡ fin.get users.secrets other
other_secret users name None other apart =
    fin.get-remove nat_list_cmp_total users.secrets name other
    ∙ other_name other name apart None (fin.get users.secrets other)
other_secret users name (Some secret) other apart =
    fin.get-insert nat_list_cmp_total users.secrets name secret other
    ∙ other_name other name apart (Some secret) (fin.get users.secrets other)

-- ---- by hash

-- a name that does not pass is not found, so it may be put in
find-put : {X : Type 0} (p : List ℕ → Bool) (name : List ℕ) (v : X) (es : List (List ℕ × X))
    → p name ≡ false
    → find p (map (λ e. e.0) (fin.put name_cmp name v es)) ≡ find p (map (λ e. e.0) es)
find-put p name v [] fails = ap (λ b. cond b (Some name) None) fails
find-put p name v (e ∷ es) fails =
    elim (name_cmp name e.0) as (λ r.
    find p (map (λ e. e.0)
    (by_order r ((name, v) ∷ e ∷ es) ((e.0, v) ∷ es) (e ∷ fin.put name_cmp name v es)))
    ≡ find p (map (λ e. e.0) (e ∷ es))) [
      | Less ↦ ap (λ b. cond b (Some name) (find p (map (λ e. e.0) (e ∷ es)))) fails
      | Equal ↦ refl
      | Greater ↦ ap (cond (p e.0) (Some e.0)) (find-put p name v es fails)
    ]

twice : (b : Bool) (x y z : Option UserSecret) → cond b x (cond b y z) ≡ cond b x z
twice true x y z = refl
twice false x y z = refl

module _ (p : List ℕ → Bool) (name : List ℕ) (fails : p name ≡ false) where
  found_after_insert : (m : fin.FinMap name_cmp UserSecret) (secret : UserSecret)
      → find p (fin.keys (fin.insert m name secret)) ≡ find p (fin.keys m)
  found_after_insert m secret =
      ap (λ es. find p (map (λ e. e.0) es)) (fin.entries-insert nat_list_cmp_total m name secret)
      ∙ find-put p name secret (fin.entries m) fails

  -- at the name itself a map has what it has there
  at_name : (m : fin.FinMap name_cmp UserSecret) (o : Option UserSecret) → fin.get m name ≡ o
      → (q : List ℕ) (b : Bool) → eq_by_cmp name_cmp q name ≡ b
      → cond b o (fin.get m q) ≡ fin.get m q
  at_name m o is q true h = sym (ap (fin.get m) (tied q name h) ∙ is)
  at_name m o is q false h = refl

  found_after_remove : (m : fin.FinMap name_cmp UserSecret)
      → find p (fin.keys (fin.remove m name)) ≡ find p (fin.keys m)
  found_after_remove m = by (fin.get m name) refl
    where
      by : (o : Option UserSecret) → fin.get m name ≡ o
          → find p (fin.keys (fin.remove m name)) ≡ find p (fin.keys m)
      by None is =
          ap (λ n. find p (fin.keys n))
          (fin.same_map nat_list_cmp_total name_exact (fin.remove m name) m
          (λ q. fin.get-remove nat_list_cmp_total m name q
          ∙ at_name m None is q (eq_by_cmp name_cmp q name) refl))
      by (Some secret) is =
          sym (found_after_insert (fin.remove m name) secret)
          ∙ ap (λ n. find p (fin.keys n))
          (fin.same_map nat_list_cmp_total name_exact (fin.insert (fin.remove m name) name secret) m
          (λ q. fin.get-insert nat_list_cmp_total (fin.remove m name) name secret q
          ∙ ap (cond (eq_by_cmp name_cmp q name) (Some secret))
          (fin.get-remove nat_list_cmp_total m name q)
          ∙ twice (eq_by_cmp name_cmp q name) (Some secret) None (fin.get m q)
          ∙ at_name m (Some secret) is q (eq_by_cmp name_cmp q name) refl))

  found_after : (m : fin.FinMap name_cmp UserSecret) (secret : Option UserSecret)
      → find p (fin.keys (secrets_with m name secret)) ≡ find p (fin.keys m)
  found_after m None = found_after_remove m
  found_after m (Some secret) = found_after_insert m secret

without_hash : (users : Registered) (name hash : List ℕ) → userhash_of name users.realm ≢ hash
    → has_hash users hash name ≡ false
without_hash users name hash apart = by (has_hash users hash name) refl
  where
    by : (b : Bool) → has_hash users hash name ≡ b → has_hash users hash name ≡ false
    by true is = absurd (apart ((bytes_eq-Decides (userhash_of name users.realm) hash).0 is))
    by false is = is

-- ---- whoever is meant

module _ (users : Registered) (name : List ℕ) (secret : Option UserSecret) where
  abbrev changed : Registered
  changed = with_secret_for users name secret

  user_of-another : (who : Named) → IsAnother users name who
      → user_of changed who ≡ user_of users who
  user_of-another (by_name other) apart =
      ap (with_secret other) (other_secret users name secret other apart)
  user_of-another (by_hash hash) apart =
      ap (option_and_then (user_named changed))
      (found_after (has_hash users hash) name fails users.secrets secret)
      ∙ by (find (has_hash users hash) (fin.keys users.secrets))
      (find-passes (has_hash users hash) (fin.keys users.secrets))
    where
      fails : has_hash users hash name ≡ false
      fails = without_hash users name hash apart

      by : (o : Option (List ℕ)) → IfSome o (λ n. has_hash users hash n ≡ true)
          → option_and_then (user_named changed) o ≡ option_and_then (user_named users) o
      by None h = refl
      by (Some n) h =
          ap (with_secret n)
          (other_secret users name secret n
          (λ same. true≢false (sym h ∙ ap (has_hash users hash) same ∙ fails)))

  pub meant-another : (who : Option Named) → MeansAnother users name who
      → option_and_then (user_of changed) who ≡ option_and_then (user_of users) who
  meant-another None apart = refl
  meant-another (Some who) apart = user_of-another who apart

  pub verdict-another : (feature : Feature) (ours : List ℕ) (offered : Option AlgorithmSet)
      (r : Reading) → MeansAnother users name (named_in r.userhash r.username feature)
      → verdict changed feature ours offered r ≡ verdict users feature ours offered r
  verdict-another feature ours offered r apart =
      sym (verdict-alone changed feature ours offered r)
      ∙ ap (λ user. verdict (just users user) feature ours offered r)
      (meant-another (named_in r.userhash r.username feature) apart)
      ∙ verdict-alone users feature ours offered r
