-- A challenge that offers a supported algorithm is answered.
use Rattle.std.proofs.Common.{◌≡◌, Bool, true, false, ℕ, List, [], ◌∷◌, Option, Some, None, cond}
use Rattle.std.proofs.Common.{◌∙◌, ap, refl, subst, sym}
use Rattle.std.specs.Prelude.{◌||◌, find}
use Rattle.std.specs.Option.{IsSome, is_some, option_map}
use Rattle.stun_base.specs.Credentials.{NameAndPassword}
use Rattle.stun_base.specs.declared.keys.algorithm.IntegrityAlgorithm.{IntegrityAlgorithm}
use Rattle.stun_base.specs.declared.keys.algorithm.IntegrityAlgorithm.TheVariants.{Sha1, Sha256}
use Rattle.stun_judging.specs.Algorithms.{has, same_algorithm}
use Rattle.stun_judging.specs.Nonces.{asks_for_algorithms}
use Rattle.stun_client.specs.Challenge.{Challenge, new_challenge}
use Rattle.stun_client.specs.Challenges.{Answered, IsAnswerable, by_rule, by_rule_if}
use Rattle.stun_client.specs.Challenges.{challenge_of, is_one}
use Rattle.stun_client.specs.Challenges.{list_for, list_kept}
use Rattle.stun_client.specs.Challenging.{is_challenge, nonce_in, realm_in}
use Rattle.stun_client.specs.Judging.{answered_in, by_signature, dropped, fault_in, judged}
use Rattle.stun_client.specs.Judging.{judged_by_long_term, judged_read, long_term, refused, sent_for}
use Rattle.stun_client.specs.Judging.{unless_faulty}
use Rattle.stun_client.specs.Offers.{algorithms_in}
use Rattle.stun_client.specs.Preferences.{supports}
use Rattle.stun_client.specs.Rule.{chosen}
use Rattle.stun_client.specs.Standing.{StandingSeen, is_ignored}
use Rattle.stun_client.specs.declared.judged.Distrust.TheVariants.{NotVerified, WeakerChallenge}
use Rattle.stun_client.specs.declared.preferences.Preferences.{Preferences}
use Rattle.stun_client.proofs.ChosenLemmas.{challenge_is}

same : (a b : IntegrityAlgorithm) → same_algorithm a b ≡ true → a ≡ b
same Sha1 Sha1 is = refl
same Sha1 Sha256 is = cc
same Sha256 Sha1 is = cc
same Sha256 Sha256 is = refl

-- a list with a supported algorithm has a first one
found : (p : Preferences) (list : List IntegrityAlgorithm) (a : IntegrityAlgorithm)
    → supports p a ≡ true → has a list ≡ true → is_some (find (supports p) list) ≡ true
found p [] a can there = cc
found p (x ∷ xs) a can there =
    by (supports p x) refl (same_algorithm x a) refl there (λ rest. found p xs a can rest)
  where
    by : (b : Bool) → supports p x ≡ b → (c : Bool) → same_algorithm x a ≡ c
        → (c || has a xs) ≡ true
        → (has a xs ≡ true → is_some (find (supports p) xs) ≡ true)
        → is_some (cond b (Some x) (find (supports p) xs)) ≡ true
    by true is c equal there rest = refl
    by false is true equal there rest =
        let no : supports p a ≡ false = subst (λ y. supports p y ≡ false) (same x a equal) is in
        cc
    by false is false equal there rest = rest there

-- so something is chosen
choice_is : (p : Preferences) (nonce list : List ℕ) (a : IntegrityAlgorithm) → supports p a ≡ true
    → cond (asks_for_algorithms nonce) (has a (algorithms_in list)) (same_algorithm a Sha1) ≡ true
    → is_some (chosen p nonce list) ≡ true
choice_is p nonce list a can = by (asks_for_algorithms nonce)
  where
    by : (asks : Bool) → cond asks (has a (algorithms_in list)) (same_algorithm a Sha1) ≡ true
        → is_some (cond asks (find (supports p) (algorithms_in list))
        (cond (supports p Sha1) (Some Sha1) None)) ≡ true
    by true there = found p (algorithms_in list) a can there
    by false there =
        let ours : supports p Sha1 ≡ true = subst (λ x. supports p x ≡ true) (same a Sha1 there) can in
        ap (λ b. is_some (cond b (Some Sha1) None)) ours

mapped : {X Y : Type 0} (f : X → Y) (o : Option X) → is_some o ≡ true
    → is_some (option_map f o) ≡ true
mapped f None is = cc
mapped f (Some x) is = refl

pub answerable : (p : Preferences) (who : NameAndPassword) (before : Option Challenge)
    (bytes : List ℕ) → IsAnswerable p before bytes → IsSome (challenge_of p who before bytes)
answerable p who before bytes can =
    let list = list_for before bytes in
    let ruled : is_some (by_rule p who can.realm can.nonce (list_for before bytes)) ≡ true =
    ap (λ lacks. is_some (cond lacks None
    (option_map (new_challenge p.anonymous_username who can.realm can.nonce
    (list_kept can.nonce (list_for before bytes))) (chosen p can.nonce (list_for before bytes)))))
    can.hashes
    ∙ mapped (new_challenge p.anonymous_username who can.realm can.nonce
    (list_kept can.nonce (list_for before bytes))) (chosen p can.nonce (list_for before bytes))
    (choice_is p can.nonce (list_for before bytes) can.algorithm can.supported can.offered) in
    sym (ap is_some (challenge_is p who before bytes can.realm can.nonce list can.asks can.realm_is
    can.nonce_is refl)) ∙ ruled

-- a challenge that is read and neither repeated nor ignored has the request sent again
pub sent_again : (required : Bool) (who : NameAndPassword) (p : Preferences) (accepts : Bool)
    (standing : StandingSeen) (before : Option Answered) (bytes : List ℕ) (c : Answered)
    → fault_in required bytes ≡ None → answered_in p who before bytes ≡ Some c
    → is_one (Some c) before ≡ false → is_ignored standing c ≡ false
    → judged required true (long_term who p accepts) standing before bytes ≡ sent_for before bytes c
sent_again required who p accepts standing before bytes c whole read new strong =
    ap (unless_faulty (judged_by_long_term accepts p who standing before bytes)) whole
    ∙ ap (λ b. cond b (judged_read accepts standing before bytes (answered_in p who before bytes))
    (by_signature accepts before NotVerified bytes)) challenges
    ∙ ap (judged_read accepts standing before bytes) read
    ∙ ap (λ b. cond b (refused None) (cond (is_ignored standing c) (dropped WeakerChallenge)
    (sent_for before bytes c))) new
    ∙ ap (λ b. cond b (dropped WeakerChallenge) (sent_for before bytes c)) strong
  where
    challenges : is_challenge bytes ≡ true
    challenges = by (is_challenge bytes) refl
      where
        by : (b : Bool) → is_challenge bytes ≡ b → is_challenge bytes ≡ true
        by true is = is
        by false is =
            let none : answered_in p who before bytes ≡ None =
            ap (λ b. option_map (λ (d : Challenge). record { preferences = p; challenge = d })
            (cond b (by_rule_if p who
            (realm_in bytes) (nonce_in bytes)
            (list_for (option_map (λ (b : Answered). b.challenge) before) bytes)) None)) is in
            cc
