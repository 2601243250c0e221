-- Whoever is accepted under a nonce fails at the nonce alone once another one is current.
use Rattle.std.proofs.Common.{◌≡◌, ◌≢◌, ℕ, zero, suc, Bool, true, false, List, [], ◌∷◌, Option}
use Rattle.std.proofs.Common.{Some}
use Rattle.std.proofs.Common.{None, refl, ◌∙◌, ap, Err}
use Rattle.std.specs.Prelude.{cond, not, drop, ◌&&◌, ◌||◌}
use Rattle.std.specs.List.{find}
use Rattle.std.specs.Option.{IsSome, is_none, option_and_then, option_map_or, unwrap_or}
use Rattle.std.specs.Str.{bytes_eq}
use Rattle.std.specs.declared.net.socket_addr.SocketAddr.{SocketAddr}
use Rattle.std.proofs.lemmas.Slice.Eq.{bytes_eq-Decides}
use Rattle.stun_base.specs.MessageType.{class_in}
use Rattle.stun_base.specs.declared.keys.algorithm.IntegrityAlgorithm.{IntegrityAlgorithm}
use Rattle.stun_base.specs.declared.wire.message_type.MessageClass.TheVariants.{Request}
use Rattle.stun_judging.specs.Verdict.{or_before, ClientSeen, IsAccepted, IsAcceptedOffering}
use Rattle.stun_judging.specs.Verdict.{agreement, bits_differ}
use Rattle.stun_judging.specs.Verdict.{client_of, named_by, nonce_refusal, or_refused, refusals}
use Rattle.stun_judging.specs.Verdict.{their_nonce, verdict}
use Rattle.stun_judging.proofs.Accepting.{offering_as_all}
use Rattle.stun_judging.specs.Nonces.{security_bits}
use Rattle.stun_judging.specs.Reading.{Reading, reading_of}
use Rattle.stun_judging.specs.Registered.{Registered, RegisteredUser}
use Rattle.stun_judging.specs.declared.feature.Feature.{Feature}
use Rattle.stun_judging.specs.declared.refusal.VerdictRefusal.{VerdictRefusal}
use Rattle.stun_judging.specs.declared.refusal.VerdictRefusal.TheVariants.{Unauthorized, BadRequest}
use Rattle.stun_judging.specs.declared.refusal.VerdictRefusal.TheVariants.{StaleNonce}
use Rattle.stun_endpoint.specs.Judged.{Realm, judged_under, or_previous}
use Rattle.stun_endpoint.specs.Judged.{verdict_under}
use Rattle.stun_endpoint.specs.Nonces.{current_nonce, epoch_of, nonce_in, security_bytes}
use Rattle.stun_endpoint.specs.Received.{answered, by_class, by_verdict, challenge_answer}
use Rattle.stun_endpoint.specs.Received.{received_by, unless_dropped}
use Rattle.stun_endpoint.specs.Responding.{drop_reason}
use Rattle.stun_endpoint.specs.Settings.{Settings}
use Rattle.stun_endpoint.specs.declared.received.Refusal.TheVariants as refused
use Rattle.stun_sessions.specs.Sessions.{IsForgotten, IsNotPrevious, IsNotUnder}

-- ---- what an accepted request has

is_false : (b : Bool) → (b ≡ true → ⊥) → b ≡ false
is_false true never = absurd (never refl)
is_false false never = refl

pub other_bytes : (a b : List ℕ) → a ≢ b → bytes_eq a b ≡ false
other_bytes a b other = is_false (bytes_eq a b) (λ is. other ((bytes_eq-Decides a b).0 is))

has_digest : (o : Option (List ℕ → Option IntegrityAlgorithm)) (key : List ℕ)
    → IsSome (option_and_then (λ (verify : List ℕ → Option IntegrityAlgorithm). verify key) o)
    → is_none o ≡ false
has_digest None key is = cc
has_digest (Some verify) key is = refl

has_some : {A : Type 0} (o : Option A) → IsSome o → is_none o ≡ false
has_some None is = cc
has_some (Some x) is = refl

has_name : (hash name : Option (List ℕ)) (users : Registered) (feature : Feature)
    (user : RegisteredUser) → named_by hash name users feature ≡ Some user
    → (is_none hash && is_none name) ≡ false
has_name (Some hash) name users feature user is = refl
has_name None (Some name) users feature user is = refl
has_name None None users feature user is = cc

-- ---- the verdict

module _ (s : Settings)
    (bits : (secret : List ℕ) (from : SocketAddr) (epoch : ℕ)
    → security_bits (nonce_in s secret from epoch)
    ≡ Some (security_bytes s.algorithms s.feature))
    (realm : Realm) (from : SocketAddr) (r : Reading) (client : ClientSeen) (made : ℕ)
    (accepted : IsAcceptedOffering realm.users realm.feature (current_nonce s from made)
    realm.offered r client) where
  abbrev before : List ℕ
  before = current_nonce s from made

  abbrev is : IsAccepted realm.users realm.feature before (Some realm.offered) r client
  is = accepted.accepted

  theirs_is : their_nonce r ≡ before
  theirs_is = ap (λ n. unwrap_or n []) is.nonce

  -- the fifth row decides
  fifth_row : (ours : List ℕ) → before ≢ ours
      → verdict realm.users realm.feature ours (Some realm.offered) r
      ≡ Err (nonce_refusal ours (their_nonce r))
  fifth_row ours other =
      let one = has_digest r.integrity is.key is.digest in
      let two = has_some r.realm is.realm in
      let three = has_name r.userhash r.username realm.users realm.feature
      (record { username = client.name; secret = is.secret }) is.named in
      let four : is_none (agreement r (their_nonce r) (Some realm.offered)) ≡ false =
      ap (λ n. is_none (agreement r n (Some realm.offered))) theirs_is
      ∙ ap is_none is.algorithm in
      let five : not (bytes_eq (their_nonce r) ours) ≡ true =
      ap (λ n. not (bytes_eq n ours)) theirs_is ∙ ap not (other_bytes before ours other) in
      λ i. or_refused (option_map_or (λ (row : Bool × VerdictRefusal). Some row.1)
      (find (λ (row : Bool × VerdictRefusal). row.0)
      ((one i, Unauthorized) ∷ (two i || is_none (is.nonce i), BadRequest) ∷ (three i, BadRequest)
      ∷ (four i, BadRequest) ∷ (five i, nonce_refusal ours (their_nonce r))
      ∷ drop 5 (refusals realm.users realm.feature ours (Some realm.offered) r))) None)
      (client_of realm.users realm.feature ours (Some realm.offered) r)

  fifth : (ours : List ℕ) → before ≢ ours
      → verdict_under realm ours r ≡ Err (nonce_refusal ours (their_nonce r))
  fifth ours other =
      offering_as_all realm.users realm.feature ours realm.offered r accepted.offered
      ∙ fifth_row ours other

  -- the nonces of a server have the same security bits
  same_bits : (secret : List ℕ) (epoch : ℕ)
      → nonce_refusal (nonce_in s secret from epoch) (their_nonce r) ≡ StaleNonce
  same_bits secret epoch =
      let theirs : security_bits (their_nonce r) ≡ Some (security_bytes s.algorithms s.feature) =
      ap security_bits theirs_is ∙ bits s.secret from (epoch_of s made) in
      (λ i. cond (bits_differ (bits secret from epoch i) (theirs i)) Unauthorized StaleNonce)
      ∙ ap (λ b. cond (not b) Unauthorized StaleNonce)
      ((bytes_eq-Decides (security_bytes s.algorithms s.feature)
      (security_bytes s.algorithms s.feature)).1 refl)

  stale : (secret : List ℕ) (epoch : ℕ) → before ≢ nonce_in s secret from epoch
      → verdict_under realm (nonce_in s secret from epoch) r ≡ Err StaleNonce
  stale secret epoch other =
      fifth (nonce_in s secret from epoch) other ∙ ap Err (same_bits secret epoch)

  under : (secret : List ℕ) (epoch : ℕ) → IsNotUnder s secret from epoch before
      → judged_under s realm secret from epoch r ≡ Err StaleNonce
  under secret zero other = stale secret 0 other
  under secret (suc e) other =
      λ i. or_before (stale secret (suc e) other.0 i) (stale secret e other.1 i)

  previously : (previous : Option (List ℕ)) (epoch : ℕ)
      → IsNotPrevious s previous from epoch before
      → or_previous s realm previous from epoch r (Err StaleNonce) ≡ Err StaleNonce
  previously None epoch other = refl
  previously (Some secret) epoch other = ap (or_before (Err StaleNonce)) (under secret epoch other)

pub forgotten_is_stale : (s : Settings)
    → ((secret : List ℕ) (from : SocketAddr) (epoch : ℕ)
    → security_bits (nonce_in s secret from epoch)
    ≡ Some (security_bytes s.algorithms s.feature))
    → (realm : Realm) (from : SocketAddr) (made now : ℕ) (bytes : List ℕ) (client : ClientSeen)
    → drop_reason s.requires_fingerprint bytes ≡ None → class_in bytes ≡ Request
    → IsAcceptedOffering realm.users realm.feature (current_nonce s from made) realm.offered
    (reading_of bytes) client
    → IsForgotten s from made now
    → received_by s realm from now bytes
    ≡ answered (challenge_answer s refused.StaleNonce (current_nonce s from now) from bytes)
forgotten_is_stale s bits realm from made now bytes client stays asks is other =
    let r = reading_of bytes in
    let epoch = epoch_of s now in
    ap (unless_dropped (by_class s realm from now bytes (class_in bytes))) stays
    ∙ ap (by_class s realm from now bytes) asks
    ∙ ap (by_verdict s realm from now bytes)
    (ap (or_previous s realm s.previous from epoch r)
    (under s bits realm from r client made is s.secret epoch other.current)
    ∙ previously s bits realm from r client made is s.previous epoch other.previous)
