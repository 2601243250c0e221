-- A request that reads as one signed for a challenge by the rule is not bid down. Where the server's
-- nonce asks for a choice, the list that was chosen from is the server's own; where it does not, the
-- server has HMAC-SHA1 alone.
use Rattle.std.proofs.Common.{◌≡◌, ◌⊎◌, inl, inr, Bool, true, false, ℕ, List, [], ◌∷◌}
use Rattle.std.proofs.Common.{Option, Some, None, refl, ◌∙◌, ap, sym}
use Rattle.std.specs.Prelude.{cond, find, if◌then◌else◌, map, ◌&&◌, ◌||◌}
use Rattle.std.specs.Option.{option_and_then, option_map}
use Rattle.stun_base.specs.declared.keys.algorithm.IntegrityAlgorithm.{IntegrityAlgorithm}
use Rattle.stun_base.specs.declared.keys.algorithm.IntegrityAlgorithm.TheVariants.{Sha1, Sha256}
use Rattle.stun_base.specs.declared.wire.message_type.MessageClass.{MessageClass}
use Rattle.stun_types.specs.Integrity.{deciding, deciding_algorithm, integrity_algorithm}
use Rattle.stun_types.specs.Integrity.{is_digest, verified_algorithm, verified_at}
use Rattle.stun_types.specs.PasswordAlgorithms.{entries, integrity_of}
use Rattle.stun_types.specs.Walk.{Member}
use Rattle.stun_types.specs.declared.attribute.password_algorithm.PasswordAlgorithmValue.{
  PasswordAlgorithmValue,
}
use Rattle.stun_judging.specs.Algorithms.{algorithms_of, has, is_sha256, offered_list}
use Rattle.stun_judging.specs.Algorithms.{same_algorithm, same_list}
use Rattle.stun_client.specs.Challenge.{Challenge, added_under, is_listed, list_read}
use Rattle.stun_judging.specs.Feature.{is_possible}
use Rattle.stun_judging.specs.Nonces.{asks_for_algorithms, asks_for_userhash}
use Rattle.stun_judging.specs.Reading.{has_visible_integrity, reading_of, verified_under}
use Rattle.stun_judging.specs.Registered.{Registered}
use Rattle.stun_judging.specs.Verdict.{ClientSeen, IsAccepted, choice}
use Rattle.stun_judging.specs.Signed.{ReadsAs, only_if}
use Rattle.stun_judging.specs.declared.algorithm_set.AlgorithmSet.{AlgorithmSet}
use Rattle.stun_judging.specs.declared.feature.Feature.{Feature}
use Rattle.stun_client.specs.Downgrade.{IsNotBidDown, IsStrongestOfBoth, IsUpToDate}
use Rattle.stun_client.specs.Offers.{algorithms_in}
use Rattle.stun_client.specs.Preferences.{supports}
use Rattle.stun_client.specs.Rule.{IsChosen, is_hashed}
use Rattle.stun_client.specs.declared.preferences.Preferences.{Preferences}
use Rattle.stun_client.proofs.ChosenLemmas.{strongest_found}
use Rattle.stun_client.proofs.OfferLemmas.{known_read, none_in_nothing}

some-same : {X : Type 0} (x y : X) → Some x ≡ Some y → x ≡ y
some-same x y is = cc

both-true : (a b : Bool) → (a && b) ≡ true → (a ≡ true) × (b ≡ true)
both-true true b is = (refl, is)
both-true false b is = cc

-- ---- a digest that verifies is that of the deciding attribute, whatever the key is

verified-decides : (bytes key : List ℕ) (o : Option Member) (a : IntegrityAlgorithm)
    → option_and_then (verified_at (λ _. key) bytes) o ≡ Some a
    → option_map (λ (m : Member). integrity_algorithm m.1) o ≡ Some a
verified-decides bytes key None a is = cc
verified-decides bytes key (Some m) a is =
    decided (is_digest bytes key m) is
  where
    decided : (b : Bool) → cond b (Some (integrity_algorithm m.1)) None ≡ Some a
        → Some (integrity_algorithm m.1) ≡ Some a
    decided true is = is
    decided false is = cc

decides-if : (bytes key : List ℕ) (b : Bool) (a : IntegrityAlgorithm)
    → option_and_then (λ (verify : List ℕ → Option IntegrityAlgorithm). verify key)
    (cond b (Some (verified_algorithm bytes)) None) ≡ Some a
    → deciding_algorithm bytes ≡ Some a
decides-if bytes key true a is = verified-decides bytes key (deciding bytes) a is
decides-if bytes key false a is = cc

pub decides : (bytes key : List ℕ) (a : IntegrityAlgorithm)
    → verified_under (reading_of bytes) key ≡ Some a → deciding_algorithm bytes ≡ Some a
unfolding reading_of
decides bytes key a is = decides-if bytes key (has_visible_integrity bytes) a is

-- ---- the algorithm
same-algorithm : (a b : IntegrityAlgorithm) → same_algorithm a b ≡ true → a ≡ b
same-algorithm Sha1 Sha1 is = refl
same-algorithm Sha1 Sha256 is = cc
same-algorithm Sha256 Sha1 is = cc
same-algorithm Sha256 Sha256 is = refl

same-list : (xs ys : List IntegrityAlgorithm) → same_list xs ys ≡ true → xs ≡ ys
same-list [] [] is = refl
same-list [] (y ∷ ys) is = cc
same-list (x ∷ xs) [] is = cc
same-list (x ∷ xs) (y ∷ ys) is =
    let parts = both-true (same_algorithm x y) (same_list xs ys) is in
    let head = same-algorithm x y parts.0 in
    let tail = same-list xs ys parts.1 in
    λ i. head i ∷ tail i

-- a choice of a list is the client's, and the list is the offered one
chosen-of-list : (list offered : List IntegrityAlgorithm) (a b : IntegrityAlgorithm)
    → choice (Some list) (Some a) offered ≡ Some b → (list ≡ offered) × (a ≡ b)
chosen-of-list list offered a b is =
    tested (same_list list offered) (has a offered) refl is
  where
    tested : (same there : Bool) → same_list list offered ≡ same
        → cond (same && there) (Some a) None ≡ Some b → (list ≡ offered) × (a ≡ b)
    tested true true same is = (same-list list offered same, cc)
    tested true false same is = cc
    tested false there same is = cc

-- with what is read of the list that a client repeats
chosen-of-added : (p : Preferences) (offer : List ℕ) (offered : List IntegrityAlgorithm)
    (a b : IntegrityAlgorithm) → find (supports p) (algorithms_in offer) ≡ Some a
    → choice (if is_listed offer then list_read offer else None)
    (only_if (is_sha256 a || is_listed offer) a) offered
    ≡ Some b
    → (algorithms_in offer ≡ offered) × (a ≡ b)
chosen-of-added p [] offered a b found is =
    let none : find (supports p) [] ≡ Some a = ap (find (supports p)) (sym none_in_nothing) ∙ found in
    cc
chosen-of-added p (byte ∷ list) offered a b found is = by a (entries (byte ∷ list)) refl is
  where
    named : (a : IntegrityAlgorithm) → only_if (is_sha256 a || true) a ≡ Some a
    named Sha1 = refl
    named Sha256 = refl

    by : (a : IntegrityAlgorithm) (read : Option (List PasswordAlgorithmValue))
        → entries (byte ∷ list) ≡ read
        → choice (option_map (map integrity_of) read) (only_if (is_sha256 a || true) a) offered
        ≡ Some b
        → (algorithms_in (byte ∷ list) ≡ offered) × (a ≡ b)
    by a None read is =
        let no : choice None (Some a) offered ≡ Some b =
        ap (λ one. choice None one offered) (sym (named a)) ∙ is in
        cc
    by a (Some all) read is =
        let both = chosen-of-list (map integrity_of all) offered a b
        (ap (λ one. choice (Some (map integrity_of all)) one offered) (sym (named a)) ∙ is) in
        (known_read (byte ∷ list) all read ∙ both.0, both.1)

-- the offered list, where something is chosen of it, is the server's
offered-is : (p : Preferences) (offered : Option AlgorithmSet) (set : AlgorithmSet)
    (list : List IntegrityAlgorithm) (a : IntegrityAlgorithm)
    → (offered ≡ None) ⊎ (offered ≡ Some set) → list ≡ offered_list offered
    → find (supports p) list ≡ Some a → list ≡ algorithms_of set
offered-is p offered set list a (inl none) same found =
    let nothing : find (supports p) [] ≡ Some a =
    ap (find (supports p)) (sym (same ∙ ap offered_list none)) ∙ found in
    cc
offered-is p offered set list a (inr some) same found = same ∙ ap offered_list some

module _ (p : Preferences) (c : Challenge) (class : MessageClass) (error : Option ℕ)
    (bytes : List ℕ) (by_rule : IsChosen p c)
    (reads : ReadsAs class error (added_under true c) (reading_of bytes))
    (users : Registered) (feature : Feature) (ours : List ℕ) (offered : Option AlgorithmSet)
    (current : IsUpToDate users feature ours offered) where
  -- an accepted request has the server's nonce
  nonce-same : (client : ClientSeen)
      → IsAccepted users feature ours offered (reading_of bytes) client → c.nonce ≡ ours
  nonce-same client accepted = some-same c.nonce ours (sym reads.nonce_is ∙ accepted.nonce)

  -- the accepted algorithm is the client's, and the strongest
  agreed : (client : ClientSeen)
      → IsAccepted users feature ours offered (reading_of bytes) client
      → (asks : Bool) → asks_for_algorithms ours ≡ asks
      → (c.algorithm ≡ client.algorithm) × IsStrongestOfBoth p users.algorithms client.algorithm
  agreed client accepted true asks =
      let r = reading_of bytes in
      let found : find (supports p) (algorithms_in c.offered) ≡ Some c.algorithm =
      sym (ap (λ b. cond b (find (supports p) (algorithms_in c.offered)) (cond (supports p Sha1) (Some Sha1) None))
      (ap asks_for_algorithms (nonce-same client accepted) ∙ asks)) ∙ by_rule.by_rule in
      let agreement_is : choice r.algorithms r.algorithm (offered_list offered)
      ≡ Some client.algorithm =
      sym (ap (λ b. cond b (choice r.algorithms r.algorithm (offered_list offered)) (Some Sha1))
      asks) ∙ accepted.algorithm in
      let added = chosen-of-added p c.offered (offered_list offered) c.algorithm
      client.algorithm found
      (sym (ap (λ list. choice list r.algorithm (offered_list offered)) reads.algorithms_are
      ∙ ap (λ one. choice (if is_listed c.offered then list_read c.offered else None) one
      (offered_list offered)) reads.algorithm_is) ∙ agreement_is) in
      let list = offered-is p offered users.algorithms (algorithms_in c.offered) c.algorithm
      current.offer added.0 found in (
        added.1,
        strongest_found p users.algorithms client.algorithm
            (sym (ap (find (supports p)) list) ∙ (found ∙ ap (λ a. Some a) added.1))
            accepted.supported,
      )
  agreed client accepted false asks =
      let r = reading_of bytes in
      let only : cond (supports p Sha1) (Some Sha1) None ≡ Some c.algorithm =
      sym (ap (λ b. cond b (find (supports p) (algorithms_in c.offered)) (cond (supports p Sha1) (Some Sha1) None))
      (ap asks_for_algorithms (nonce-same client accepted) ∙ asks)) ∙ by_rule.by_rule in
      let agreement_is : Some Sha1 ≡ Some client.algorithm =
      sym (ap (λ b. cond b (choice r.algorithms r.algorithm (offered_list offered)) (Some Sha1))
      asks) ∙ accepted.algorithm in
      let same : Sha1 ≡ client.algorithm = some-same Sha1 client.algorithm agreement_is in
      let parts = allowed (supports p Sha1) refl only in (
        sym parts.1 ∙ same,
        record {
          ours = sym (ap (supports p) same) ∙ parts.0;
          theirs = accepted.supported;
          strongest = λ have there. absurd (differ (sym asks ∙ (current.algorithms ∙ there)));
        },
      )
    where
      allowed : (b : Bool) → supports p Sha1 ≡ b → cond b (Some Sha1) None ≡ Some c.algorithm
          → (supports p Sha1 ≡ true) × (Sha1 ≡ c.algorithm)
      allowed true is found = (is, cc)
      allowed false is found = cc

      differ : false ≡ true → ⊥
      differ is = cc

  pub not_bid_down : IsNotBidDown p users feature ours offered (reading_of bytes)
  not_bid_down = record {
    strongest = λ client accepted. (agreed client accepted (asks_for_algorithms ours) refl).1;
    digest = λ client accepted key a verified.
        let own = decides bytes c.key c.algorithm
        (reads.digest_verifies (record { algorithm = c.algorithm; key = c.key }) refl) in
        let other = decides bytes key a verified in
        some-same a c.algorithm (sym other ∙ own)
        ∙ (agreed client accepted (asks_for_algorithms ours) refl).0;
    hashed = λ client accepted wanted given.
        let asks : asks_for_userhash c.nonce ≡ true =
        ap asks_for_userhash (nonce-same client accepted) ∙ (current.hashes ∙ given) in
        let is : is_hashed p c.nonce ≡ true = ap (λ b. b && is_possible p.anonymous_username) asks
        ∙ wanted in
        reads.username_is ∙ by_rule.hashed is;
  }
