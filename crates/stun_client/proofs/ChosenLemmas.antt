-- What the rule chooses: a supported algorithm, and the strongest that both sides support where a
-- server's own list is chosen from.
use Rattle.std.proofs.Common.{◌≡◌, Bool, true, false, ℕ, List, [], Option, Some, None, refl}
use Rattle.std.proofs.Common.{◌∙◌, ap, subst, sym}
use Rattle.std.specs.Prelude.{cond, find, not, ◌&&◌}
use Rattle.std.specs.Option.{option_map}
use Rattle.stun_base.specs.Credentials.{NameAndPassword}
use Rattle.stun_base.specs.declared.keys.algorithm.IntegrityAlgorithm.{IntegrityAlgorithm}
use Rattle.stun_base.specs.declared.keys.algorithm.IntegrityAlgorithm.TheVariants.{Sha1, Sha256}
use Rattle.stun_judging.specs.Algorithms.{algorithms_of, contains}
use Rattle.stun_judging.specs.Feature.{is_required, is_possible}
use Rattle.stun_judging.specs.Naming.{naming_of}
use Rattle.stun_judging.specs.Nonces.{asks_for_algorithms, asks_for_userhash}
use Rattle.stun_judging.specs.Signed.{plain_name}
use Rattle.stun_judging.specs.declared.algorithm_set.AlgorithmSet.{AlgorithmSet}
use Rattle.stun_judging.specs.declared.algorithm_set.AlgorithmSet.TheVariants.{OnlySha1}
use Rattle.stun_judging.specs.declared.algorithm_set.AlgorithmSet.TheVariants.{OnlySha256, Both}
use Rattle.stun_judging.specs.declared.feature.Feature.{Feature}
use Rattle.stun_judging.specs.declared.feature.Feature.TheVariants.{Auto, Required, Disabled}
use Rattle.stun_client.specs.Challenge.{Challenge, new_challenge}
use Rattle.stun_client.specs.Challenges.{IsOfMessage, by_rule, by_rule_if, challenge_of}
use Rattle.stun_client.specs.Challenges.{list_for, list_kept}
use Rattle.stun_client.specs.Challenging.{is_challenge, nonce_in, realm_in}
use Rattle.stun_client.specs.Downgrade.{IsStrongestOfBoth}
use Rattle.stun_client.specs.Offers.{algorithms_in}
use Rattle.stun_client.specs.Preferences.{supports}
use Rattle.stun_client.specs.Rule.{IsByRule, IsChosen, chosen, lacks_userhash}
use Rattle.stun_client.specs.declared.preferences.Preferences.{Preferences}

-- one algorithm alone, where it is supported
one : (b : Bool) (x a : IntegrityAlgorithm) → cond b (Some x) None ≡ Some a → (b ≡ true) × (x ≡ a)
one true x a is = (refl, cc)
one false x a is = cc

-- the first that is supported of a server's own list is the strongest that both support
pub strongest_found : (p : Preferences) (set : AlgorithmSet) (a : IntegrityAlgorithm)
    → find (supports p) (algorithms_of set) ≡ Some a → contains a set ≡ true
    → IsStrongestOfBoth p set a
strongest_found p OnlySha1 a found there =
    let is = one (supports p Sha1) Sha1 a found in
    record {
      ours = ap (supports p) (sym is.1) ∙ is.0;
      theirs = there;
      strongest = λ ours theirs. cc;
    }
strongest_found p OnlySha256 a found there =
    let is = one (supports p Sha256) Sha256 a found in
    record {
      ours = ap (supports p) (sym is.1) ∙ is.0;
      theirs = there;
      strongest = λ ours theirs. sym is.1;
    }
strongest_found p Both a found there =
    both (supports p Sha256) refl found
  where
    both : (b : Bool) → supports p Sha256 ≡ b
        → cond b (Some Sha256) (cond (supports p Sha1) (Some Sha1) None) ≡ Some a
        → IsStrongestOfBoth p Both a
    both true is found =
        let same : Sha256 ≡ a = cc in
        record {
          ours = ap (supports p) (sym same) ∙ is;
          theirs = there;
          strongest = λ ours theirs. sym same;
        }
    both false is found =
        let found = one (supports p Sha1) Sha1 a found in
        record {
          ours = ap (supports p) (sym found.1) ∙ found.0;
          theirs = there;
          strongest = λ ours theirs. cc;
        }

-- the list that a request repeats gives the same choice
kept-same : (asks : Bool) (p : Preferences) (list : List ℕ)
    → cond asks (find (supports p) (algorithms_in (cond asks list [])))
    (cond (supports p Sha1) (Some Sha1) None)
    ≡ cond asks (find (supports p) (algorithms_in list)) (cond (supports p Sha1) (Some Sha1) None)
kept-same true p list = refl
kept-same false p list = refl

pub chosen-kept : (p : Preferences) (nonce list : List ℕ)
    → chosen p nonce (list_kept nonce list) ≡ chosen p nonce list
chosen-kept p nonce list = kept-same (asks_for_algorithms nonce) p list

-- a challenge by the rule is chosen by it
pub chosen_of_rule : (p : Preferences) (who : NameAndPassword) (c : Challenge)
    → IsByRule p who c → IsChosen p c
chosen_of_rule p who c h = record {
  by_rule = h.algorithm;
  hashed = λ hashes. ap plain_name h.naming
      ∙ ap (λ b. plain_name (naming_of b who.username c.realm)) hashes;
  required = h.required;
}

-- a name that must be hashed is, if the nonce allows it
must_hash : (f : Feature) (asks : Bool) (username realm : List ℕ)
    → (is_required f && not asks) ≡ false → is_required f ≡ true
    → plain_name (naming_of (asks && is_possible f) username realm) ≡ None
must_hash Required true username realm has must = refl
must_hash Required false username realm has must = cc
must_hash Auto asks username realm has must = cc
must_hash Disabled asks username realm has must = cc

-- what the rule makes is by the rule
new_by_rule : (p : Preferences) (who : NameAndPassword) (realm nonce list : List ℕ)
    (a : IntegrityAlgorithm)
    → lacks_userhash p nonce ≡ false → chosen p nonce list ≡ Some a
    → IsByRule p who
    (new_challenge p.anonymous_username who realm nonce (list_kept nonce list) a)
new_by_rule p who realm nonce list a has is = record {
  algorithm = chosen-kept p nonce list ∙ is;
  naming = refl;
  key = refl;
  required = must_hash p.anonymous_username (asks_for_userhash nonce) who.username realm has;
}

module _ (p : Preferences) (who : NameAndPassword) (before : Option Challenge) (bytes : List ℕ)
    (c : Challenge) (asks : is_challenge bytes ≡ true) where
  made : (realm nonce : List ℕ) → realm_in bytes ≡ Some realm → nonce_in bytes ≡ Some nonce
      → lacks_userhash p nonce ≡ false
      → (o : Option IntegrityAlgorithm) → chosen p nonce (list_for before bytes) ≡ o
      → option_map (new_challenge p.anonymous_username who realm nonce
      (list_kept nonce (list_for before bytes))) o ≡ Some c
      → IsByRule p who c × IsOfMessage before bytes c
  made realm nonce realm_is nonce_is has None is h = cc
  made realm nonce realm_is nonce_is has (Some a) is h =
      let list = list_for before bytes in
      let same : new_challenge p.anonymous_username who realm nonce (list_kept nonce list) a
      ≡ c = cc in
      subst (λ (d : Challenge). IsByRule p who d × IsOfMessage before bytes d) same (
        new_by_rule p who realm nonce list a has is,
        record { asks = asks; realm = realm_is; nonce = nonce_is; offered = refl },
      )

  unless : (realm nonce : List ℕ) → realm_in bytes ≡ Some realm → nonce_in bytes ≡ Some nonce
      → (lacks : Bool) → lacks_userhash p nonce ≡ lacks
      → cond lacks None (option_map (new_challenge p.anonymous_username who realm nonce
      (list_kept nonce (list_for before bytes))) (chosen p nonce (list_for before bytes)))
      ≡ Some c
      → IsByRule p who c × IsOfMessage before bytes c
  unless realm nonce realm_is nonce_is true has h = cc
  unless realm nonce realm_is nonce_is false has h =
      made realm nonce realm_is nonce_is has (chosen p nonce (list_for before bytes)) refl h

  of_parts : (realm : Option (List ℕ)) → realm_in bytes ≡ realm
      → (nonce : Option (List ℕ)) → nonce_in bytes ≡ nonce
      → by_rule_if p who realm nonce (list_for before bytes) ≡ Some c
      → IsByRule p who c × IsOfMessage before bytes c
  of_parts None realm_is nonce nonce_is h = cc
  of_parts (Some realm) realm_is None nonce_is h = cc
  of_parts (Some realm) realm_is (Some nonce) nonce_is h =
      unless realm nonce realm_is nonce_is (lacks_userhash p nonce) refl h

-- each challenge of a message is by the rule, and of the message
pub made_by_rule : (p : Preferences) (who : NameAndPassword) (before : Option Challenge)
    (bytes : List ℕ) (c : Challenge) → challenge_of p who before bytes ≡ Some c
    → IsByRule p who c × IsOfMessage before bytes c
made_by_rule p who before bytes c = cases (is_challenge bytes) refl
  where
    cases : (b : Bool) → is_challenge bytes ≡ b
        → cond b (by_rule_if p who (realm_in bytes) (nonce_in bytes) (list_for before bytes)) None
        ≡ Some c
        → IsByRule p who c × IsOfMessage before bytes c
    cases true asks h =
        of_parts p who before bytes c asks (realm_in bytes) refl (nonce_in bytes) refl h
    cases false asks h = cc

-- and a chosen one is
pub chosen_new : (p : Preferences) (who : NameAndPassword) (realm nonce list : List ℕ)
    (a : IntegrityAlgorithm) (c : Challenge)
    → lacks_userhash p nonce ≡ false → chosen p nonce list ≡ Some a
    → c ≡ new_challenge p.anonymous_username who realm nonce (list_kept nonce list) a
    → IsChosen p c
chosen_new p who realm nonce list a c has is same =
    subst (IsChosen p) (sym same)
    (chosen_of_rule p who
    (new_challenge p.anonymous_username who realm nonce (list_kept nonce list) a)
    (new_by_rule p who realm nonce list a has is))

-- a message with a realm and a nonce is the challenge that the rule makes of them
pub challenge_is : (p : Preferences) (who : NameAndPassword) (before : Option Challenge)
    (bytes realm nonce list : List ℕ)
    → is_challenge bytes ≡ true → realm_in bytes ≡ Some realm → nonce_in bytes ≡ Some nonce
    → list ≡ list_for before bytes
    → by_rule p who realm nonce list ≡ challenge_of p who before bytes
challenge_is p who before bytes realm nonce list challenges realm_is nonce_is list_is =
    ap (by_rule p who realm nonce) list_is
    ∙ sym (ap (λ n. by_rule_if p who (Some realm) n (list_for before bytes)) nonce_is)
    ∙ sym (ap (λ r. by_rule_if p who r (nonce_in bytes) (list_for before bytes)) realm_is)
    ∙ sym (ap (λ b. cond b
    (by_rule_if p who (realm_in bytes) (nonce_in bytes) (list_for before bytes)) None) challenges)

-- a copy is chosen too
pub chosen_copy : (p : Preferences) (c copy : Challenge) → IsChosen p c → copy ≡ c
    → IsChosen p copy
chosen_copy p c copy is same = subst (IsChosen p) (sym same) is
