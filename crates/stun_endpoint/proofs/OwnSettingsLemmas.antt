-- Whatever users a server is passed, it accepts what its own settings offer.
use Rattle.std.proofs.Common.{◌≡◌, ℕ, List, [], ◌∷◌, Option, Some, None}
use Rattle.std.proofs.Common.{Bool, true, false, refl, sym, ◌∙◌, ap, Ok}
use Rattle.std.specs.Prelude.{cond, not, ◌||◌, ◌&&◌}
use Rattle.std.specs.Option.{is_some}
use Rattle.std.specs.declared.net.socket_addr.SocketAddr.{SocketAddr}
use Rattle.stun_base.specs.declared.keys.algorithm.IntegrityAlgorithm.{IntegrityAlgorithm}
use Rattle.stun_base.specs.declared.keys.algorithm.IntegrityAlgorithm.TheVariants.{Sha1, Sha256}
use Rattle.stun_judging.specs.Algorithms.{algorithms_of, contains, has, same_list}
use Rattle.stun_judging.specs.Feature.{is_possible}
use Rattle.stun_judging.specs.Reading.{Reading, reading_of}
use Rattle.stun_judging.specs.Registered.{Registered, RegisteredUser, user_with_hash}
use Rattle.stun_judging.specs.Verdict.{ClientSeen, choice, named_by}
use Rattle.stun_endpoint.specs.Judged.{IsAcceptedBy, has_other_realm, judged, realm_of_user}
use Rattle.stun_endpoint.specs.Judged.{users_at}
use Rattle.stun_endpoint.specs.Nonces.{epoch_of, nonce_in}
use Rattle.stun_endpoint.specs.Offers.{HasAllowedHash, HasChosen, HasOfferedList, IsOffered}
use Rattle.stun_endpoint.specs.Received.{AcceptedRequest, Answer, Outcome, answered, dropped}
use Rattle.stun_endpoint.specs.Received.{received_for, requested}
use Rattle.stun_endpoint.specs.Settings.{Settings}
use Rattle.stun_endpoint.specs.declared.received.DropReason.TheVariants.{OtherRealm}
use Rattle.stun_endpoint.proofs.AcceptedLemmas.{accepted_at}
use Rattle.stun_endpoint.proofs.AnsweredLemmas.{IsGivenToAccepted, answered_is_accepted}
use Rattle.stun_endpoint.proofs.HandedLemmas.{judged_of_handed}
use Rattle.stun_endpoint.proofs.OfferLemmas.{nonce_asks}
use Rattle.stun_endpoint.proofs.RealmLemmas.{algorithms_at}
use Rattle.stun_endpoint.proofs.TheirNonceLemmas.{accepted_has}

-- ---- lists and choices

same_list_is : (xs ys : List IntegrityAlgorithm) → same_list xs ys ≡ true → xs ≡ ys
same_list_is [] [] h = refl
same_list_is [] (y ∷ ys) h = cc
same_list_is (x ∷ xs) [] h = cc
same_list_is (Sha1 ∷ xs) (Sha1 ∷ ys) h = ap (λ zs. Sha1 ∷ zs) (same_list_is xs ys h)
same_list_is (Sha256 ∷ xs) (Sha256 ∷ ys) h = ap (λ zs. Sha256 ∷ zs) (same_list_is xs ys h)
same_list_is (Sha1 ∷ xs) (Sha256 ∷ ys) h = cc
same_list_is (Sha256 ∷ xs) (Sha1 ∷ ys) h = cc

chosen_if : (p q : Bool) (a b : IntegrityAlgorithm) → cond (p && q) (Some a) None ≡ Some b
    → (p ≡ true) × (a ≡ b)
chosen_if true true a b h = (refl, cc)
chosen_if true false a b h = cc
chosen_if false q a b h = cc

offer_parts : (s : Settings) (algorithm : IntegrityAlgorithm)
    (list : Option (List IntegrityAlgorithm)) (a : Option IntegrityAlgorithm) (c : Bool)
    → contains Sha256 s.algorithms ≡ c
    → (not c && (is_some list || is_some a)) ≡ false
    → cond c (choice list a (algorithms_of s.algorithms)) (Some Sha1) ≡ Some algorithm
    → HasOfferedList s list × HasChosen s algorithm a
offer_parts s algorithm None None c is apart h = (tt, tt)
offer_parts s algorithm (Some list) a false is apart h = cc
offer_parts s algorithm None (Some a) false is apart h = cc
offer_parts s algorithm None (Some a) true is apart h = cc
offer_parts s algorithm (Some list) None true is apart h = cc
offer_parts s algorithm (Some list) (Some a) true is apart h =
    let offered = algorithms_of s.algorithms in
    let parts = chosen_if (same_list list offered) (has a offered) a algorithm h in
    ((is, same_list_is list offered parts.0), (is, parts.1))

-- ---- hashes

possible_if : (b : Bool) (o : Option RegisteredUser) (user : RegisteredUser)
    → cond b o None ≡ Some user → b ≡ true
possible_if true o user h = refl
possible_if false o user h = cc

hash_allowed : (s : Settings) (users : Registered) (hash name : Option (List ℕ))
    (user : RegisteredUser) → named_by hash name users s.feature ≡ Some user
    → HasAllowedHash s hash
hash_allowed s users None name user h = tt
hash_allowed s users (Some hash) name user h =
    possible_if (is_possible s.feature) (user_with_hash users hash) user h

-- ---- an accepted request

module _ (s : Settings) (users : Option Registered) (from : SocketAddr) (r : Reading)
    (client : ClientSeen) where
  offered_under : (secret : List ℕ) (e : ℕ)
      → IsAcceptedBy (realm_of_user s users) (nonce_in s secret from e) r client
      → IsOffered s r client
  offered_under secret e is =
      let ours = nonce_in s secret from e in
      let parts =
      offer_parts s client.algorithm r.algorithms r.algorithm (contains Sha256 s.algorithms) refl
      is.offered
      (sym (ap (λ c. cond c (choice r.algorithms r.algorithm (algorithms_of s.algorithms))
      (Some Sha1)) (nonce_asks s secret from e ours refl)) ∙ is.accepted.algorithm) in
      record {
        supported = sym (ap (contains client.algorithm) (algorithms_at s users))
            ∙ is.accepted.supported;
        list = parts.0;
        choice = parts.1;
        hash = hash_allowed s (users_at s users) r.userhash r.username _ is.accepted.named;
      }

  pub offered_if_judged : (now : ℕ) → judged s (realm_of_user s users) from now r ≡ Ok client
      → IsOffered s r client
  offered_if_judged now is =
      let one = accepted_has s (realm_of_user s users) from r client (epoch_of s now) is in
      offered_under one.1.0 one.1.1 one.1.2

-- ---- outcomes

not_other : (b : Bool) (rest : Outcome) (q : AcceptedRequest)
    → cond b (dropped OtherRealm) rest ≡ requested q → rest ≡ requested q
not_other true rest q h = cc
not_other false rest q h = h

not_other_answer : (b : Bool) (rest : Outcome) (a : Answer)
    → cond b (dropped OtherRealm) rest ≡ answered a → rest ≡ answered a
not_other_answer true rest a h = cc
not_other_answer false rest a h = h

module _ (s : Settings) (users : Option Registered) (from : SocketAddr) (now : ℕ) (bytes : List ℕ)
  where
    pub offered_if_handed : (q : AcceptedRequest)
        → received_for s users from now bytes ≡ requested q
        → IsOffered s (reading_of bytes) q.client
    offered_if_handed q h =
        offered_if_judged s users from (reading_of bytes) q.client now
        (judged_of_handed s (realm_of_user s users) from now bytes q
        (not_other (has_other_realm s users) _ q h))

    pub offered_if_answered : (a : Answer) → received_for s users from now bytes ≡ answered a
        → IsGivenToAccepted a.refusal
        → (client : ClientSeen) × IsOffered s (reading_of bytes) client
    offered_if_answered a h given =
        let realm = realm_of_user s users in
        let one =
        answered_is_accepted s realm from now bytes a
        (not_other_answer (has_other_realm s users) _ a h) given in (
          one.0,
          offered_if_judged s users from (reading_of bytes) one.0 now
              ((accepted_at s realm from (reading_of bytes) one.0 (epoch_of s now)).1 one.1),
        )
