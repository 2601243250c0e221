-- A server accepts what reads as signed by one of its users for its challenge.
use Rattle.std.proofs.Common.{◌≡◌, Bool, true, false, ℕ, List, Option, Some, None, refl}
use Rattle.std.proofs.Common.{◌∙◌, ap, cond, subst, sym}
use Rattle.std.specs.Prelude.{find, not, ◌&&◌, ◌||◌}
use Rattle.std.specs.Option.{is_some, option_and_then, option_map}
use Rattle.stun_base.specs.Credentials.{NameAndPassword}
use Rattle.stun_base.specs.Keys.{long_term_key, userhash_of}
use Rattle.stun_base.specs.declared.keys.algorithm.IntegrityAlgorithm.{IntegrityAlgorithm}
use Rattle.stun_base.specs.declared.keys.algorithm.IntegrityAlgorithm.TheVariants.{Sha1, Sha256}
use Rattle.stun_base.specs.declared.wire.message_type.MessageClass.{MessageClass}
use Rattle.stun_judging.specs.Algorithms.{algorithms_of, contains, is_sha256}
use Rattle.stun_judging.specs.Naming.{naming_of}
use Rattle.stun_judging.specs.Feature.{is_possible}
use Rattle.stun_judging.specs.Nonces.{asks_for_userhash}
use Rattle.stun_judging.specs.Reading.{Reading}
use Rattle.stun_judging.specs.Registered.{Registered, RegisteredUser, UserSecret, of_password}
use Rattle.stun_judging.specs.Registered.{user_named, user_with_hash}
use Rattle.stun_judging.specs.Verdict.{IsAccepted, choice, is_unoffered, named_by}
use Rattle.stun_judging.specs.Signed.{ReadsAs, hashed_name, only_if, plain_name}
use Rattle.stun_judging.proofs.TableUsers.{name_of_table}
use Rattle.stun_judging.specs.declared.algorithm_set.AlgorithmSet.{AlgorithmSet}
use Rattle.stun_judging.specs.declared.algorithm_set.AlgorithmSet.TheVariants.{OnlySha1}
use Rattle.stun_judging.specs.declared.algorithm_set.AlgorithmSet.TheVariants.{OnlySha256, Both}
use Rattle.stun_exchanges.specs.Agreement.{AgreeOn, meant_by, offered_by}
use Rattle.stun_client.specs.Challenge.{added_under, is_listed, list_read}
use Rattle.stun_client.specs.Downgrade.{IsUpToDate}
use Rattle.stun_client.specs.Preferences.{supports}
use Rattle.stun_client.specs.declared.preferences.Preferences.{Preferences}
use Rattle.stun_exchanges.proofs.AgreementLemmas.{not_other, not_weaker, supported_is}
use Rattle.stun_endpoint.specs.Lookups.{users_with}
use Rattle.stun_endpoint.specs.Settings.{Settings, registered_of}
use Rattle.stun_endpoint.specs.Judged.{IsAcceptedBy, Realm}
use Rattle.stun_endpoint.proofs.RealmLemmas.{realm_of_own}
use Rattle.stun_exchanges.specs.Exchange.{IsRegisteredUser, realm_knowing}

-- the list that a server reads of the one that a client repeats
abbrev read_again : AlgorithmSet → Option (List IntegrityAlgorithm)
read_again set = cond (is_listed (offered_by set)) (list_read (offered_by set)) None

-- what the client adds for its choice is what the server agrees to
agreed : (p : Preferences) (set : AlgorithmSet) (a : IntegrityAlgorithm)
    → find (supports p) (algorithms_of set) ≡ Some a
    → cond (contains Sha256 set)
    (choice (read_again set) (only_if (is_sha256 a || is_listed (offered_by set)) a)
    (algorithms_of set)) (Some Sha1)
    ≡ Some a
agreed p OnlySha1 Sha1 found = refl
agreed p OnlySha1 Sha256 found = absurd (not_other (supports p Sha1) found)
agreed p OnlySha256 Sha1 found = absurd (not_weaker (supports p Sha256) found)
agreed p OnlySha256 Sha256 found = refl
agreed p Both Sha1 found = refl
agreed p Both Sha256 found = refl

-- it adds a list and a choice only if the server offers a list
offered_only : (p : Preferences) (set : AlgorithmSet) (a : IntegrityAlgorithm)
    → find (supports p) (algorithms_of set) ≡ Some a
    → (not (contains Sha256 set) && (is_some (read_again set)
    || is_some (only_if (is_sha256 a || is_listed (offered_by set)) a)))
    ≡ false
offered_only p OnlySha1 Sha1 found = refl
offered_only p OnlySha1 Sha256 found = absurd (not_other (supports p Sha1) found)
offered_only p OnlySha256 a found = refl
offered_only p Both a found = refl

module _ (s : Settings) (table : Registered) (who : NameAndPassword)
    (known : IsRegisteredUser s table who) where
  -- the users of the table, at the server's realm
  abbrev users : Registered
  users = users_with s table.secrets

  abbrev user : RegisteredUser
  user = record { username = who.username; secret = of_password who.password }

  by_name : user_named users who.username ≡ Some user
  by_name =
      ap (option_map (λ (secret : UserSecret). record { username = who.username; secret = secret }))
      known.registered

  by_hash : user_with_hash users (userhash_of who.username s.realm) ≡ Some user
  by_hash =
      ap (option_and_then (user_named users))
      (sym (name_of_table users (registered_of s) table (userhash_of who.username s.realm) refl
      known.realm)
      ∙ known.hashed)
      ∙ by_name

  -- the user is found by the hash where the nonce allows one, and else by name
  named_again : (hashes possible : Bool) → is_possible s.feature ≡ hashes
      → named_by (hashed_name (naming_of (hashes && possible) who.username s.realm))
      (plain_name (naming_of (hashes && possible) who.username s.realm)) users s.feature
      ≡ Some user
  named_again true true feasible =
      ap (λ b. cond b (user_with_hash users (userhash_of who.username s.realm)) None) feasible
      ∙ by_hash
  named_again true false feasible = by_name
  named_again false possible feasible = by_name

  as_all : (p : Preferences) (nonce : List ℕ) (a : IntegrityAlgorithm)
      (class : MessageClass) (error : Option ℕ) (r : Reading)
      → IsUpToDate (registered_of s) s.feature nonce (Some s.algorithms)
      → AgreeOn p s.algorithms s.feature a
      → ReadsAs class error (added_under true (meant_by p who s.realm s.algorithms nonce a)) r
      → IsAccepted users s.feature nonce (Some s.algorithms) r
      (record { name = who.username; algorithm = a })
  as_all p nonce a class error r current agree reads = record {
    secret = of_password who.password;
    key = long_term_key a who.username s.realm who.password;
    realm = ap is_some reads.realm_is;
    nonce = reads.nonce_is;
    algorithm =
        ap (λ b. cond b (choice r.algorithms r.algorithm (algorithms_of s.algorithms)) (Some Sha1))
        current.algorithms
        ∙ ap (λ l. cond (contains Sha256 s.algorithms)
        (choice l r.algorithm (algorithms_of s.algorithms)) (Some Sha1)) reads.algorithms_are
        ∙ ap (λ o. cond (contains Sha256 s.algorithms)
        (choice (read_again s.algorithms) o (algorithms_of s.algorithms)) (Some Sha1))
        reads.algorithm_is
        ∙ agreed p s.algorithms a agree.first;
    named =
        ap (λ h. named_by h r.username users s.feature) reads.userhash_is
        ∙ ap (λ n. named_by
        (hashed_name (naming_of (asks_for_userhash nonce && is_possible p.anonymous_username)
        who.username s.realm)) n users s.feature) reads.username_is
        ∙ named_again (asks_for_userhash nonce) (is_possible p.anonymous_username)
        (sym current.hashes);
    present = known.registered;
    supported = supported_is p s.algorithms a agree.first;
    key_is = refl;
    digest = ap is_some (reads.digest_verifies (record {
      algorithm = a;
      key = long_term_key a who.username s.realm who.password;
    }) refl);
  }

  offered_again : (p : Preferences) (nonce : List ℕ) (a : IntegrityAlgorithm) (class : MessageClass)
      (error : Option ℕ) (r : Reading) → AgreeOn p s.algorithms s.feature a
      → ReadsAs class error (added_under true (meant_by p who s.realm s.algorithms nonce a)) r
      → is_unoffered s.algorithms r ≡ false
  offered_again p nonce a class error r agree reads =
      ap (λ l. not (contains Sha256 s.algorithms) && (is_some l || is_some r.algorithm))
      reads.algorithms_are
      ∙ ap (λ o. not (contains Sha256 s.algorithms)
      && (is_some (read_again s.algorithms) || is_some o)) reads.algorithm_is
      ∙ offered_only p s.algorithms a agree.first

  pub accepted_again : (p : Preferences) (nonce : List ℕ) (a : IntegrityAlgorithm)
      (class : MessageClass) (error : Option ℕ) (r : Reading)
      → IsUpToDate (registered_of s) s.feature nonce (Some s.algorithms)
      → AgreeOn p s.algorithms s.feature a
      → ReadsAs class error (added_under true (meant_by p who s.realm s.algorithms nonce a)) r
      → IsAcceptedBy (realm_knowing s table) nonce r
      (record { name = who.username; algorithm = a })
  accepted_again p nonce a class error r current agree reads =
      subst (λ (realm : Realm). IsAcceptedBy realm nonce r
      (record { name = who.username; algorithm = a }))
      (sym (realm_of_own s table known.realm))
      (record {
        offered = offered_again p nonce a class error r agree reads;
        accepted = as_all p nonce a class error r current agree reads;
      })
