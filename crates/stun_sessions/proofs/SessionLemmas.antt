-- One request of a session, while its nonce lasts and after that.
use Rattle.std.proofs.Common.{◌≡◌, ◌≢◌, ◌⊎◌, ℕ, zero, suc, Bool, true, false, List, [], Option, Some}
use Rattle.std.proofs.Common.{None, inl, inr, refl, ◌∙◌, ap, sym}
use Rattle.std.specs.Prelude.{cond, not, ◌&&◌, ◌||◌, unwrap_or}
use Rattle.std.specs.Option.{is_none, option_and_then, option_map}
use Rattle.std.specs.Str.{bytes_eq}
use Rattle.std.specs.declared.net.socket_addr.SocketAddr.{SocketAddr}
use Rattle.stun_base.specs.Credentials.{NameAndPassword}
use Rattle.stun_base.specs.Keys.{long_term_key}
use Rattle.stun_base.specs.declared.keys.algorithm.IntegrityAlgorithm.{IntegrityAlgorithm}
use Rattle.stun_types.specs.Integrity.{deciding, deciding_algorithm, integrity_algorithm, is_digest}
use Rattle.stun_types.specs.Integrity.{verified_algorithm, verified_at}
use Rattle.stun_types.specs.Walk.{Member}
use Rattle.stun_judging.specs.Algorithms.{is_sha256, same_algorithm}
use Rattle.stun_judging.specs.Naming.{Naming, naming_of}
use Rattle.stun_judging.specs.Nonces.{asks_for_userhash}
use Rattle.stun_judging.specs.Reading.{has_visible_integrity, reading_of, verified_under}
use Rattle.stun_judging.specs.Registered.{Registered, RegisteredUser, UserSecret, key_if, key_of}
use Rattle.stun_judging.specs.Registered.{of_password, user_named}
use Rattle.stun_judging.specs.Signed.{plain_name}
use Rattle.stun_judging.specs.Feature.{is_possible}
use Rattle.stun_client.specs.Challenges.{Answered, is_one}
use Rattle.stun_client.specs.Standing.{StandingSeen, after_answer, after_success, confirmed}
use Rattle.stun_client.specs.Standing.{gives_way, is_ignored, is_standing, is_stronger_than}
use Rattle.stun_client.specs.Standing.{is_weaker_than}
use Rattle.stun_client.specs.declared.preferences.Preferences.{Preferences}
use Rattle.stun_endpoint.specs.Judged.{Realm, key_of_client}
use Rattle.stun_endpoint.specs.Lookups.{users_with}
use Rattle.stun_endpoint.specs.Nonces.{current_nonce, epoch_of, nonce_in}
use Rattle.stun_endpoint.specs.Settings.{Settings}
use Rattle.stun_exchanges.specs.Agreement.{AgreeOn}
use Rattle.stun_exchanges.specs.Exchange.{IsRegisteredUser, meant_for, realm_knowing}
use Rattle.stun_endpoint.proofs.RealmLemmas.{realm_of_own}
use Rattle.stun_exchanges.proofs.AgreementLemmas.{supported_is}
use Rattle.stun_sessions.specs.Sessions.{IsConfirmedBy, IsMeantHere, IsNotUnder, client_named}
use Rattle.stun_sessions.proofs.StaleLemmas.{other_bytes}

-- ---- the algorithm of the digest

digest_decides : (bytes key : List ℕ) (found : Option Member) (a : IntegrityAlgorithm)
    → option_and_then (verified_at (λ _. key) bytes) found ≡ Some a
    → option_map (λ (m : Member). integrity_algorithm m.1) found ≡ Some a
digest_decides bytes key None a is = cc
digest_decides bytes key (Some m) a is = decided (is_digest bytes key m) is
  where
    decided : (b : Bool) → cond b (Some (integrity_algorithm m.1)) None ≡ Some a
        → Some (integrity_algorithm m.1) ≡ Some a
    decided true is = is
    decided false is = cc

decides_if : (bytes key : List ℕ) (b : Bool) (a : IntegrityAlgorithm)
    → option_and_then (λ (verify : List ℕ → Option IntegrityAlgorithm). verify key)
    (cond b (Some (verified_algorithm bytes)) None) ≡ Some a
    → deciding_algorithm bytes ≡ Some a
decides_if bytes key true a is = digest_decides bytes key (deciding bytes) a is
decides_if bytes key false a is = cc

pub decides : (bytes key : List ℕ) (a : IntegrityAlgorithm)
    → verified_under (reading_of bytes) key ≡ Some a → deciding_algorithm bytes ≡ Some a
unfolding reading_of
decides bytes key a is = decides_if bytes key (has_visible_integrity bytes) a is

-- ---- the key of the user

pub key_again : (s : Settings) (users : Registered) (who : NameAndPassword) (p : Preferences)
    (a : IntegrityAlgorithm) → IsRegisteredUser s users who → AgreeOn p s.algorithms s.feature a
    → key_of_client (realm_knowing s users) (client_named who a)
    ≡ long_term_key a who.username s.realm who.password
key_again s users who p a known agree =
    let user : RegisteredUser = record {
      username = who.username;
      secret = of_password who.password;
    } in
    let here = users_with s users.secrets in
    let named : user_named here who.username ≡ Some user =
    ap (option_map (λ (secret : UserSecret). record { username = who.username; secret = secret }))
    known.registered in
    ap (λ (realm : Realm). key_of_client realm (client_named who a))
    (realm_of_own s users known.realm)
    ∙ ap (λ o. unwrap_or (option_and_then
    (λ (user : RegisteredUser). key_of here user a) o) []) named
    ∙ ap (λ b. unwrap_or (key_if b a who.username s.realm (of_password who.password)) [])
    (supported_is p s.algorithms a agree.first)

-- ---- a new challenge is another one, and not weaker

not_first : (s : Settings) (secret : List ℕ) (from : SocketAddr) (epoch : ℕ) (nonce : List ℕ)
    → IsNotUnder s secret from epoch nonce → nonce ≢ nonce_in s secret from epoch
not_first s secret from zero nonce other = other
not_first s secret from (suc e) nonce other = other.0

pub is_another : (s : Settings) (p : Preferences) (who : NameAndPassword) (a : IntegrityAlgorithm)
    (from : SocketAddr) (made now : ℕ) (signed_for : Option Answered)
    → signed_for ≡ Some (meant_for s p who (current_nonce s from made) a)
    → IsNotUnder s s.secret from (epoch_of s now) (current_nonce s from made)
    → is_one (Some (meant_for s p who (current_nonce s from now) a)) signed_for ≡ false
is_another s p who a from made now signed_for is other =
    let meant = meant_for s p who (current_nonce s from now) a in
    let before = meant_for s p who (current_nonce s from made) a in
    let differs = not_first s s.secret from (epoch_of s now) (current_nonce s from made) other in
    ap (is_one (Some meant)) is
    ∙ ap (λ b. b && bytes_eq meant.challenge.realm before.challenge.realm
    && bytes_eq meant.challenge.offered before.challenge.offered
    && same_algorithm meant.challenge.algorithm before.challenge.algorithm)
    (other_bytes (current_nonce s from now) (current_nonce s from made) (λ e. differs (sym e)))

no_both : (b : Bool) → (b && not b) ≡ false
no_both true = refl
no_both false = refl

no_weaker : (a : IntegrityAlgorithm) (m n : Naming)
    → is_none (plain_name n) ≡ is_none (plain_name m)
    → ((is_sha256 a && not (is_sha256 a)) || (is_none (plain_name m) && not (is_none (plain_name n))))
    ≡ false
no_weaker a m n same =
    (λ i. no_both (is_sha256 a) i || (is_none (plain_name m) && not (same i)))
    ∙ no_both (is_none (plain_name m))

pub is_heeded : (s : Settings)
    → ((secret : List ℕ) (from : SocketAddr) (epoch : ℕ)
    → asks_for_userhash (nonce_in s secret from epoch) ≡ is_possible s.feature)
    → (p : Preferences) (who : NameAndPassword) (a : IntegrityAlgorithm) (standing : StandingSeen)
    (secret : List ℕ) (from : SocketAddr) (epoch : ℕ) → IsConfirmedBy s who p a standing
    → is_ignored standing (meant_for s p who (nonce_in s secret from epoch) a) ≡ false
is_heeded s hashes p who a standing secret from epoch (inl none) =
    ap (is_weaker_than (meant_for s p who (nonce_in s secret from epoch) a)) none
is_heeded s hashes p who a standing secret from epoch (inr known) =
    let meant = meant_for s p who (nonce_in s secret from epoch) a in
    let other = meant_for s p who (nonce_in s known.secret known.from known.epoch) a in
    let alike : asks_for_userhash (nonce_in s secret from epoch)
    ≡ asks_for_userhash (nonce_in s known.secret known.from known.epoch) =
    hashes secret from epoch ∙ sym (hashes known.secret known.from known.epoch) in
    ap (is_weaker_than meant) known.is
    ∙ no_weaker a other.challenge.naming meant.challenge.naming
    (ap (λ b. is_none (plain_name (naming_of (b && is_possible p.anonymous_username) who.username
    s.realm))) alike)

-- ---- the current challenge

pub answered_last : (standing : StandingSeen) (c : Answered)
    → is_one (Some c) standing.current ≡ false → (after_answer standing c).current ≡ Some c
answered_last standing c new =
    ap (λ b. (cond b standing (record {
      current = Some c;
      is_validated = false;
      validated = confirmed standing;
    })).current) new

-- what a success makes of the current challenge
abbrev with_success : (standing : StandingSeen) (c : Answered) (is_one is_stronger gives : Bool)
    → StandingSeen
with_success standing c is_one is_stronger gives =
    cond is_one (record standing { is_validated = true; validated = None })
    (cond is_stronger (cond gives (record { current = Some c; is_validated = true; validated = None })
    (record { current = standing.current; is_validated = false; validated = Some c })) standing)

pub stays_current : (standing : StandingSeen) (other : Answered)
    → gives_way standing.current other ≡ false
    → (after_success standing (Some other)).current ≡ standing.current
stays_current standing other stays =
    ap (λ b. (with_success standing other (is_standing standing (Some other))
    (is_stronger_than other (confirmed standing)) b).current) stays
    ∙ by (is_standing standing (Some other)) (is_stronger_than other (confirmed standing))
  where
    by : (b v : Bool) → (with_success standing other b v false).current ≡ standing.current
    by true v = refl
    by false true = refl
    by false false = refl

pub stays_or_gives_way : (standing : StandingSeen) (other : Option Answered)
    → ((after_success standing other).current ≡ standing.current)
    ⊎ ((after_success standing other).current ≡ other)
stays_or_gives_way standing None = inl refl
stays_or_gives_way standing (Some c) =
    by (is_standing standing (Some c)) (is_stronger_than c (confirmed standing))
    (gives_way standing.current c)
  where
    by : (b v w : Bool) → ((with_success standing c b v w).current ≡ standing.current)
        ⊎ ((with_success standing c b v w).current ≡ Some c)
    by true v w = inl refl
    by false true true = inr refl
    by false true false = inl refl
    by false false w = inl refl

-- two challenges of one server are as strong as each other
pub alike_stay : (s : Settings)
    → ((secret : List ℕ) (from : SocketAddr) (epoch : ℕ)
    → asks_for_userhash (nonce_in s secret from epoch) ≡ is_possible s.feature)
    → (p : Preferences) (who : NameAndPassword) (a : IntegrityAlgorithm) (standing : StandingSeen)
    (other : Option Answered) → IsMeantHere s who p a standing.current → IsMeantHere s who p a other
    → (after_success standing other).current ≡ standing.current
alike_stay s hashes p who a standing other here known =
    let current = meant_for s p who (nonce_in s here.secret here.from here.epoch) a in
    let meant = meant_for s p who (nonce_in s known.secret known.from known.epoch) a in
    let alike : asks_for_userhash (nonce_in s here.secret here.from here.epoch)
    ≡ asks_for_userhash (nonce_in s known.secret known.from known.epoch) =
    hashes here.secret here.from here.epoch
    ∙ sym (hashes known.secret known.from known.epoch) in
    let stays : gives_way standing.current meant ≡ false =
    ap (λ (o : Option Answered). gives_way o meant) here.is
    ∙ no_weaker a meant.challenge.naming current.challenge.naming
    (ap (λ b. is_none (plain_name (naming_of (b && is_possible p.anonymous_username) who.username
    s.realm))) alike) in
    ap (λ (o : Option Answered). (after_success standing o).current) known.is
    ∙ stays_current standing meant stays
