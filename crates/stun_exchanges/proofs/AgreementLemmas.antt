-- A client answers the challenge of a server with which it has an algorithm in common.
use Rattle.std.proofs.Common.{◌≡◌, Bool, true, false, ℕ, List, [], ◌∷◌, Some, None, refl}
use Rattle.std.proofs.Common.{◌∙◌, ap, cond}
use Rattle.std.specs.Prelude.{find, not, ◌&&◌}
use Rattle.std.specs.Option.{option_map}
use Rattle.stun_base.specs.Credentials.{NameAndPassword}
use Rattle.stun_base.specs.declared.keys.algorithm.IntegrityAlgorithm.{IntegrityAlgorithm}
use Rattle.stun_base.specs.declared.keys.algorithm.IntegrityAlgorithm.TheVariants.{Sha1, Sha256}
use Rattle.stun_types.specs.PasswordAlgorithms.{password_algorithm_of}
use Rattle.stun_judging.specs.AddedAttribute as added
use Rattle.stun_judging.specs.Algorithms.{algorithms_of, contains}
use Rattle.stun_judging.specs.Feature.{is_required, is_possible}
use Rattle.stun_judging.specs.Nonces.{asks_for_algorithms}
use Rattle.stun_judging.specs.Registered.{Registered}
use Rattle.stun_judging.specs.declared.algorithm_set.AlgorithmSet.{AlgorithmSet}
use Rattle.stun_judging.specs.declared.algorithm_set.AlgorithmSet.TheVariants.{OnlySha1}
use Rattle.stun_judging.specs.declared.algorithm_set.AlgorithmSet.TheVariants.{OnlySha256, Both}
use Rattle.stun_judging.specs.declared.feature.Feature.{Feature}
use Rattle.stun_exchanges.specs.Agreement.{AgreeOn, IsSignedAnswer, meant_by, offered_by}
use Rattle.stun_client.specs.Challenge.{new_challenge}
use Rattle.stun_client.specs.Challenges.{Answered, by_rule}
use Rattle.stun_client.specs.Downgrade.{IsStrongestOfBoth, IsUpToDate}
use Rattle.stun_client.specs.Judging.{answered_in, believed, by_key, by_signature, judged}
use Rattle.stun_client.specs.Judging.{judged_by_long_term, judged_read, long_term, unbelieved}
use Rattle.stun_client.specs.Judging.{unless_faulty}
use Rattle.stun_client.specs.Offers.{algorithms_in}
use Rattle.stun_client.specs.Preferences.{supports}
use Rattle.stun_client.specs.Rule.{chosen}
use Rattle.stun_client.specs.Standing.{StandingSeen}
use Rattle.stun_client.specs.declared.judged.Distrust.TheVariants.{NotVerified}
use Rattle.stun_client.specs.declared.preferences.Preferences.{Preferences}
use Rattle.stun_client.proofs.ChosenLemmas.{strongest_found}
use Rattle.stun_client.proofs.OfferLemmas.{known_read}

-- ---- by the supported algorithms

-- a server that supports one algorithm agrees on no other
pub not_other : (b : Bool) → cond b (Some Sha1) None ≡ Some Sha256 → ⊥
not_other true is = cc
not_other false is = cc

pub not_weaker : (b : Bool) → cond b (Some Sha256) None ≡ Some Sha1 → ⊥
not_weaker true is = cc
not_weaker false is = cc

pub supported_is : (p : Preferences) (set : AlgorithmSet) (a : IntegrityAlgorithm)
    → find (supports p) (algorithms_of set) ≡ Some a → contains a set ≡ true
supported_is p OnlySha1 Sha1 found = refl
supported_is p OnlySha1 Sha256 found = absurd (not_other (supports p Sha1) found)
supported_is p OnlySha256 Sha1 found = absurd (not_weaker (supports p Sha256) found)
supported_is p OnlySha256 Sha256 found = refl
supported_is p Both Sha1 found = refl
supported_is p Both Sha256 found = refl

-- the list of a server is read as its algorithms
list_again : (set : AlgorithmSet) → contains Sha256 set ≡ true
    → algorithms_in (offered_by set) ≡ algorithms_of set
list_again OnlySha1 there = cc
list_again OnlySha256 there =
    known_read (offered_by OnlySha256) (password_algorithm_of Sha256 ∷ []) refl
list_again Both there =
    known_read (offered_by Both) (password_algorithm_of Sha256 ∷ password_algorithm_of Sha1 ∷ []) refl

-- the rule chooses from what is offered what both agree on
chosen_is : (p : Preferences) (set : AlgorithmSet) (a : IntegrityAlgorithm)
    → find (supports p) (algorithms_of set) ≡ Some a
    → cond (contains Sha256 set) (find (supports p) (algorithms_in (offered_by set)))
    (cond (supports p Sha1) (Some Sha1) None)
    ≡ Some a
chosen_is p OnlySha1 a found = found
chosen_is p OnlySha256 a found = ap (find (supports p)) (list_again OnlySha256 refl) ∙ found
chosen_is p Both a found = ap (find (supports p)) (list_again Both refl) ∙ found

pub strongest : (p : Preferences) (set : AlgorithmSet) (feature : Feature) (a : IntegrityAlgorithm)
    → AgreeOn p set feature a → IsStrongestOfBoth p set a
strongest p set feature a agree =
    strongest_found p set a agree.first (supported_is p set a agree.first)

-- where both support one, there is a first
first_of_both : (p : Preferences) (set : AlgorithmSet) (a : IntegrityAlgorithm)
    → supports p a ≡ true → contains a set ≡ true
    → (b : IntegrityAlgorithm) × (find (supports p) (algorithms_of set) ≡ Some b)
first_of_both p OnlySha1 Sha1 ours theirs = (Sha1, ap (λ b. cond b (Some Sha1) None) ours)
first_of_both p OnlySha1 Sha256 ours theirs = cc
first_of_both p OnlySha256 Sha1 ours theirs = cc
first_of_both p OnlySha256 Sha256 ours theirs = (Sha256, ap (λ b. cond b (Some Sha256) None) ours)
first_of_both p Both Sha256 ours theirs =
    (Sha256, ap (λ b. cond b (Some Sha256) (cond (supports p Sha1) (Some Sha1) None)) ours)
first_of_both p Both Sha1 ours theirs = by (supports p Sha256) refl
  where
    by : (b : Bool) → supports p Sha256 ≡ b
        → (c : IntegrityAlgorithm) × (find (supports p) (algorithms_of Both) ≡ Some c)
    by true is = (Sha256, ap (λ b. cond b (Some Sha256) (cond (supports p Sha1) (Some Sha1) None)) is)
    by false is = (
      Sha1,
      ap (λ b. cond b (Some Sha256) (cond (supports p Sha1) (Some Sha1) None)) is
          ∙ ap (λ b. cond b (Some Sha1) None) ours,
    )

pub agree_on_one : (p : Preferences) (set : AlgorithmSet) (feature : Feature)
    (a : IntegrityAlgorithm) → supports p a ≡ true → contains a set ≡ true
    → (is_required p.anonymous_username ≡ true → is_possible feature ≡ true)
    → (b : IntegrityAlgorithm) × AgreeOn p set feature b
agree_on_one p set feature a ours theirs hashes =
    let found = first_of_both p set a ours theirs in
    (found.0, record { first = found.1; hashes = hashes })

-- ---- the challenge is answered

not_lacking : (required possible : Bool) → (required ≡ true → possible ≡ true)
    → (required && not possible) ≡ false
not_lacking true true has = refl
not_lacking true false has = absurd (differ (has refl))
  where
    differ : false ≡ true → ⊥
    differ is = cc
not_lacking false possible has = refl

twice : (b : Bool) (list : List ℕ) → cond b (cond b list []) [] ≡ cond b list []
twice true list = refl
twice false list = refl

pub answered_by_rule : (p : Preferences) (who : NameAndPassword) (users : Registered)
    (feature : Feature) (nonce : List ℕ) (a : IntegrityAlgorithm)
    → IsUpToDate users feature nonce (Some users.algorithms)
    → AgreeOn p users.algorithms feature a
    → by_rule p who users.realm nonce (offered_by users.algorithms)
    ≡ Some (meant_by p who users.realm users.algorithms nonce a)
answered_by_rule p who users feature nonce a current agree =
    let list = offered_by users.algorithms in
    let challenge = new_challenge p.anonymous_username who users.realm nonce in
    ap (λ b. cond (is_required p.anonymous_username && not b) None
    (option_map (challenge (cond (asks_for_algorithms nonce) list [])) (chosen p nonce list)))
    current.hashes
    ∙ ap (λ b. cond b None
    (option_map (challenge (cond (asks_for_algorithms nonce) list [])) (chosen p nonce list)))
    (not_lacking (is_required p.anonymous_username) (is_possible feature) agree.hashes)
    ∙ ap (λ b. option_map (challenge (cond b list []))
    (cond b (find (supports p) (algorithms_in list)) (cond (supports p Sha1) (Some Sha1) None)))
    current.algorithms
    ∙ ap (λ l. option_map (challenge l)
    (cond (contains Sha256 users.algorithms) (find (supports p) (algorithms_in list))
    (cond (supports p Sha1) (Some Sha1) None)))
    (twice (contains Sha256 users.algorithms)
    (added.password_algorithms (algorithms_of users.algorithms)).value)
    ∙ ap (option_map (challenge list))
    (chosen_is p users.algorithms a agree.first)

-- ---- what a signed answer is judged to be

pub ended_by_answer : (required : Bool) (who : NameAndPassword) (p : Preferences) (accepts : Bool)
    (standing : StandingSeen) (c : Answered) (bytes : List ℕ) (a : IntegrityAlgorithm)
    → IsSignedAnswer required bytes c.challenge.key a
    → judged required true (long_term who p accepts) standing (Some c) bytes ≡ believed (Some a)
ended_by_answer required who p accepts standing c bytes a is =
    ap (unless_faulty (judged_by_long_term accepts p who standing (Some c) bytes)) is.whole
    ∙ ap (λ b. cond b
    (judged_read accepts standing (Some c) bytes (answered_in p who (Some c) bytes))
    (by_signature accepts (Some c) NotVerified bytes)) is.final
    ∙ ap (λ v. by_key v (unbelieved (Some c) NotVerified bytes)) is.signed
