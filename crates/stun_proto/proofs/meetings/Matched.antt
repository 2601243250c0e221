-- A request that is signed under a challenge is accepted where the challenge matches.
use Rattle.std.proofs.Common.{◌≡◌, ℕ, List, [], Option, Some, true}
use Rattle.std.proofs.Common.{false, refl, sym, ◌∙◌, ap, Ok, Err}
use Rattle.std.specs.Prelude.{cond, not, ◌&&◌, ◌||◌, unwrap_or}
use Rattle.std.specs.Option.{is_some, is_none, option_and_then, option_map_or}
use Rattle.std.specs.Str.{bytes_eq}
use Rattle.std.proofs.lemmas.Slice.Eq.{bytes_eq-Decides}
use Rattle.stun_base.specs.Credentials.{NameAndPassword}
use Rattle.stun_base.specs.declared.keys.algorithm.IntegrityAlgorithm.{IntegrityAlgorithm}
use Rattle.stun_base.specs.declared.keys.algorithm.IntegrityAlgorithm.TheVariants.{Sha1, Sha256}
use Rattle.stun_judging.specs.declared.algorithm_set.AlgorithmSet.{AlgorithmSet}
use Rattle.stun_judging.specs.declared.algorithm_set.AlgorithmSet.TheVariants.{OnlySha1}
use Rattle.stun_judging.specs.declared.algorithm_set.AlgorithmSet.TheVariants.{OnlySha256, Both}
use Rattle.stun_judging.specs.declared.feature.Feature.{Feature}
use Rattle.stun_judging.specs.Algorithms.{contains, algorithms_of, offered_list}
use Rattle.stun_auth.specs.Client.{Challenge}
use Rattle.stun_judging.specs.Naming.{Naming, plain, hashed}
use Rattle.stun_judging.specs.Nonces.{asks_for_algorithms}
use Rattle.stun_judging.specs.Reading.{Reading, verified_under, is_complete}
use Rattle.stun_judging.specs.Registered.{Registered, RegisteredUser, key_at, key_if, key_of}
use Rattle.stun_judging.specs.Verdict.{ClientSeen, agreement, choice, client_of, named_user}
use Rattle.stun_judging.specs.Verdict.{named_by, nonce_refusal, or_refused, verified_named}
use Rattle.stun_judging.specs.Verdict.{verified_for, their_nonce, verdict}
use Rattle.stun_auth.specs.Seen.{PlaceSeen}
use Rattle.stun_judging.specs.Signed.{hashed_name, plain_name}
use Rattle.stun_proto.specs.Matching.{Matches}
use Rattle.stun_proto.proofs.meetings.Hashes.{own_user}
use Rattle.stun_proto.proofs.meetings.Refusals.{fifth_holds, none_holds, some_there}
use Rattle.stun_proto.proofs.meetings.Signed.{IsRequest, NoncesAsk}

-- ---- the algorithm

-- a set that was offered, and a choice of it, agree
agreed_of_set : (set : AlgorithmSet) (a : IntegrityAlgorithm) → contains a set ≡ true
    → cond (contains Sha256 set) (choice (Some (algorithms_of set)) (Some a) (algorithms_of set))
    (Some Sha1)
    ≡ Some a
agreed_of_set OnlySha1 Sha1 h = refl
agreed_of_set OnlySha1 Sha256 h = cc
agreed_of_set OnlySha256 Sha1 h = cc
agreed_of_set OnlySha256 Sha256 h = refl
agreed_of_set Both Sha1 h = refl
agreed_of_set Both Sha256 h = refl

module _ (say : NoncesAsk) (users : Registered) (feature : Feature) (p : PlaceSeen) (c : Challenge)
    (who : NameAndPassword) (matches : Matches users feature p c who) where
  asks : asks_for_algorithms p.nonce ≡ contains Sha256 users.algorithms
  asks = ap asks_for_algorithms matches.made.1
      ∙ say.algorithms users.algorithms feature matches.made.0

  -- the server has the key that the client has
  abbrev user : RegisteredUser
  user = record { username = who.username; secret = matches.known.secret }

  pub key_there : key_of users user c.algorithm ≡ Some c.key
  key_there =
      ap (λ b. key_if b c.algorithm who.username users.realm matches.known.secret) matches.algorithm
      ∙ matches.known.keys c.algorithm matches.algorithm ∙ ap Some (sym matches.key)

  pub key_found : key_at users who.username c.algorithm ≡ Some c.key
  key_found =
      ap (option_and_then (λ present. key_of users present c.algorithm))
      (own_user users who.username matches.known.secret matches.known.present) ∙ key_there

  module _ (r : Reading) (reads : IsRequest c r) where
    pub agrees : agreement r p.nonce p.offered ≡ Some c.algorithm
    agrees =
        ap (λ b. cond b (choice r.algorithms r.algorithm (offered_list p.offered)) (Some Sha1)) asks
        ∙ ap (λ o.
        cond (contains Sha256 users.algorithms) (choice o r.algorithm (offered_list p.offered))
        (Some Sha1)) (reads.algorithms ∙ ap Some matches.algorithms)
        ∙ ap (λ o.
        cond (contains Sha256 users.algorithms)
        (choice (Some (algorithms_of users.algorithms)) o (offered_list p.offered)) (Some Sha1))
        reads.algorithm
        ∙ ap (λ o.
        cond (contains Sha256 users.algorithms)
        (choice (Some (algorithms_of users.algorithms)) (Some c.algorithm) (offered_list o))
        (Some Sha1))
        matches.offered
        ∙ agreed_of_set users.algorithms c.algorithm matches.algorithm

    theirs : their_nonce r ≡ p.nonce
    theirs = ap (λ o. unwrap_or o []) reads.nonce ∙ matches.nonce

    agrees_so : agreement r (their_nonce r) p.offered ≡ Some c.algorithm
    agrees_so = ap (λ n. agreement r n p.offered) theirs ∙ agrees

    named_so : named_user users feature r ≡ Some user
    named_so = ap (λ o. named_by o r.username users feature) reads.userhash
        ∙ ap (λ o. named_by (hashed_name c.naming) o users feature) reads.username ∙ matches.named

    unnamed : (n : Naming) → (is_none (hashed_name n) && is_none (plain_name n)) ≡ false
    unnamed (plain name) = refl
    unnamed (hashed hash) = refl

    there : (n : Naming) → (is_some (hashed_name n) || is_some (plain_name n)) ≡ true
    there (plain name) = refl
    there (hashed hash) = refl

    -- the first four refusals do not hold
    unsigned : is_none r.integrity ≡ false
    unsigned = some_there r.integrity reads.protected

    unplaced : (is_none r.realm || is_none r.nonce) ≡ false
    unplaced = ap (λ o. is_none o || is_none r.nonce) reads.realm ∙ ap (λ o. is_none o) reads.nonce

    nameless : (is_none r.userhash && is_none r.username) ≡ false
    nameless = ap (λ o. is_none o && is_none r.username) reads.userhash
        ∙ ap (λ o. is_none (hashed_name c.naming) && is_none o) reads.username ∙ unnamed c.naming

    disagreed : is_none (agreement r (their_nonce r) p.offered) ≡ false
    disagreed = ap is_none agrees_so

    proven_so : is_none (verified_named users feature r (agreement r (their_nonce r) p.offered))
        ≡ false
    proven_so =
        ap (λ o. is_none (verified_named users feature r o)) agrees_so
        ∙ ap (λ o. is_none (option_and_then (verified_for users r c.algorithm) o)) named_so
        ∙ ap (λ o. is_none (option_and_then (verified_under r) o)) key_there
        ∙ ap is_none reads.digest

    pub complete : is_complete r ≡ true
    complete =
        ap (λ o. is_some o && is_some r.nonce && (is_some r.userhash || is_some r.username))
        reads.realm
        ∙ ap (λ o. is_some o && (is_some r.userhash || is_some r.username)) reads.nonce
        ∙ ap (λ o. is_some o || is_some r.username) reads.userhash
        ∙ ap (λ o. is_some (hashed_name c.naming) || is_some o) reads.username
        ∙ there c.naming

    -- the client that is accepted
    abbrev client : ClientSeen
    client = record { name = who.username; algorithm = c.algorithm }

    client_so : client_of users feature p.nonce p.offered r ≡ client
    client_so =
        ap (λ (o : Option RegisteredUser).
        record {
          name = option_map_or (λ (present : RegisteredUser). present.username) o [];
          algorithm = unwrap_or (agreement r (their_nonce r) p.offered) Sha1;
        }) named_so
        ∙ ap (λ (o : Option IntegrityAlgorithm).
        record { name = who.username; algorithm = unwrap_or o Sha1 }) agrees_so

    pub matched_verdict : verdict users feature p.nonce p.offered r ≡ Ok client
    matched_verdict =
        ap (λ o. or_refused o (client_of users feature p.nonce p.offered r))
        (none_holds _ _ _ _ _ _ _ unsigned unplaced nameless disagreed
        (ap (λ n. not (bytes_eq n p.nonce)) theirs
        ∙ ap not ((bytes_eq-Decides p.nonce p.nonce).1 refl)) proven_so)
        ∙ ap Ok client_so

    -- under another nonce it is refused for that nonce
    pub other_verdict : (ours : List ℕ) → bytes_eq p.nonce ours ≡ false
        → verdict users feature ours p.offered r ≡ Err (nonce_refusal ours p.nonce)
    other_verdict ours differs =
        ap (λ o. or_refused o (client_of users feature ours p.offered r))
        (fifth_holds _ _ _ _ _ _ _ unsigned unplaced nameless disagreed
        (ap (λ n. not (bytes_eq n ours)) theirs ∙ ap not differs))
        ∙ ap (λ n. Err (nonce_refusal ours n)) theirs
