-- What a datagram comes to is the same by either of two secrets of a user, if it verifies under
-- neither: it is refused alike, and whoever is accepted is another user, whose key is the same.
use Rattle.std.proofs.Common.{◌≡◌, inl, inr, ℕ, zero, suc, List, [], Option, Some, None}
use Rattle.std.proofs.Common.{Bool, true, false, refl, sym, ◌∙◌, ap, Ok, Err}
use Rattle.std.specs.Prelude.{cond, ◌&&◌, ◌⊎◌, unwrap_or}
use Rattle.std.specs.Cmp.Lexicographic.{nat_list_cmp_total}
use Rattle.std.specs.FinMap as fin
use Rattle.std.specs.Option.{IsSome, is_some, option_and_then, option_map}
use Rattle.std.specs.Ordering.{eq_by_cmp}
use Rattle.std.specs.declared.net.socket_addr.SocketAddr.{SocketAddr}
use Rattle.std.specs.declared.result.Result.{Result}
use Rattle.stun_base.specs.MessageType.{class_in}
use Rattle.stun_base.specs.declared.wire.message_type.MessageClass.{MessageClass}
use Rattle.stun_base.specs.declared.wire.message_type.MessageClass.TheVariants.{Request}
use Rattle.stun_base.specs.declared.wire.message_type.MessageClass.TheVariants.{Indication}
use Rattle.stun_base.specs.declared.wire.message_type.MessageClass.TheVariants.{Success, Error}
use Rattle.stun_judging.specs.Verdict.{or_before, ClientSeen, is_unoffered}
use Rattle.stun_judging.specs.OtherUsers.{VerifiesUnderNone}
use Rattle.stun_judging.specs.Reading.{Reading, reading_of, verified_under}
use Rattle.stun_judging.specs.Registered.{RegisteredUser, UserSecret, key_from, key_of, name_cmp}
use Rattle.stun_judging.specs.declared.refusal.VerdictRefusal.{VerdictRefusal}
use Rattle.stun_judging.specs.declared.refusal.VerdictRefusal.TheVariants.{BadRequest}
use Rattle.stun_judging.proofs.NoOracle.{verdict-alike, verdict-unregistered}
use Rattle.stun_judging.proofs.UserKeys.{tied}
use Rattle.stun_endpoint.specs.Judged.{IsAcceptedBy, IsAcceptedByPrevious, IsAcceptedUnder}
use Rattle.stun_endpoint.specs.Judged.{Realm, judged, judged_under, key_of_client, or_previous}
use Rattle.stun_endpoint.specs.Judged.{verdict_under}
use Rattle.stun_endpoint.specs.Nonces.{epoch_of, nonce_in}
use Rattle.stun_exchanges.specs.OtherSecrets.{with_secret_at}
use Rattle.stun_endpoint.specs.Received.{by_class, by_verdict, outcome_of_accepted, received_by}
use Rattle.stun_endpoint.specs.Received.{unless_dropped}
use Rattle.stun_endpoint.specs.Responding.{drop_reason}
use Rattle.stun_endpoint.specs.Settings.{Settings}
use Rattle.stun_endpoint.proofs.AcceptedLemmas.{accepted_at}

-- ---- two realms with the same verdicts

-- the nonce under which a client is accepted
accepting_epoch : (s : Settings) (realm : Realm) (from : SocketAddr) (r : Reading)
    (client : ClientSeen) (secret : List ℕ) (e : ℕ)
    → IsAcceptedUnder s realm secret from e r client
    → (f : ℕ) × IsAcceptedBy realm (nonce_in s secret from f) r client
accepting_epoch s realm from r client secret zero one = (0, one)
accepting_epoch s realm from r client secret (suc e) (inl one) = (suc e, one)
accepting_epoch s realm from r client secret (suc e) (inr one) = (e, one)

accepting_nonce : (s : Settings) (realm : Realm) (from : SocketAddr) (r : Reading)
    (client : ClientSeen) (previous : Option (List ℕ)) (e : ℕ)
    → IsAcceptedUnder s realm s.secret from e r client
    ⊎ IsAcceptedByPrevious s realm previous from e r client
    → (nonce : List ℕ) × IsAcceptedBy realm nonce r client
accepting_nonce s realm from r client previous e (inl one) =
    let found = accepting_epoch s realm from r client s.secret e one in
    (nonce_in s s.secret from found.0, found.1)
accepting_nonce s realm from r client None e (inr one) = absurd one
accepting_nonce s realm from r client (Some secret) e (inr one) =
    let found = accepting_epoch s realm from r client secret e one in
    (nonce_in s secret from found.0, found.1)

-- realms that give each nonce the same verdict, and whoever is accepted the same key
record AreAlike (one other : Realm) (r : Reading) : Type 0 where
  verdicts : (nonce : List ℕ) → verdict_under one nonce r ≡ verdict_under other nonce r
  keys : (nonce : List ℕ) (client : ClientSeen) → IsAcceptedBy one nonce r client
      → key_of_client one client ≡ key_of_client other client

module _ (s : Settings) (one other : Realm) (from : SocketAddr) (r : Reading)
    (alike : AreAlike one other r) where
  under-alike : (secret : List ℕ) (e : ℕ)
      → judged_under s one secret from e r ≡ judged_under s other secret from e r
  under-alike secret zero = alike.verdicts (nonce_in s secret from 0)
  under-alike secret (suc e) =
      ap (λ v. or_before v (verdict_under one (nonce_in s secret from e) r))
      (alike.verdicts (nonce_in s secret from (suc e)))
      ∙ ap (or_before (verdict_under other (nonce_in s secret from (suc e)) r))
      (alike.verdicts (nonce_in s secret from e))

  previous-alike : (previous : Option (List ℕ)) (e : ℕ)
      → or_previous s one previous from e r (judged_under s one s.secret from e r)
      ≡ or_previous s other previous from e r (judged_under s other s.secret from e r)
  previous-alike None e = under-alike s.secret e
  previous-alike (Some secret) e =
      ap (λ v. or_before v (judged_under s one secret from e r)) (under-alike s.secret e)
      ∙ ap (or_before (judged_under s other s.secret from e r)) (under-alike secret e)

  judged-alike : (now : ℕ) → judged s one from now r ≡ judged s other from now r
  judged-alike now = previous-alike s.previous (epoch_of s now)

module _ (s : Settings) (one other : Realm) (from : SocketAddr) (now : ℕ) (bytes : List ℕ)
    (alike : AreAlike one other (reading_of bytes)) where
  verdict-by : (v : Result ClientSeen VerdictRefusal)
      → judged s one from now (reading_of bytes) ≡ v
      → by_verdict s one from now bytes v ≡ by_verdict s other from now bytes v
  verdict-by (Ok client) is =
      let found = accepting_nonce s one from (reading_of bytes) client s.previous (epoch_of s now)
      ((accepted_at s one from (reading_of bytes) client (epoch_of s now)).0 is) in
      ap (λ key. outcome_of_accepted s key from bytes client) (alike.keys found.0 client found.1)
  verdict-by (Err refusal) is = refl

  class-alike : (class : MessageClass)
      → by_class s one from now bytes class ≡ by_class s other from now bytes class
  class-alike Request =
      verdict-by (judged s one from now (reading_of bytes)) refl
      ∙ ap (by_verdict s other from now bytes)
      (judged-alike s one other from (reading_of bytes) alike now)
  class-alike Indication = refl
  class-alike Success = refl
  class-alike Error = refl

  outcomes-alike : received_by s one from now bytes ≡ received_by s other from now bytes
  outcomes-alike =
      ap (λ outcome. unless_dropped outcome (drop_reason s.requires_fingerprint bytes))
      (class-alike (class_in bytes))

-- ---- realms that differ in the secret of one user

-- the verdict, unless the request has algorithms that were not offered
abbrev unless_unoffered : Realm → Reading → Result ClientSeen VerdictRefusal
    → Result ClientSeen VerdictRefusal
unless_unoffered realm r v =
    cond (is_some r.integrity && is_unoffered realm.offered r) (Err BadRequest) v

-- what verifies has a key
no_key : (r : Reading) (key : List ℕ) → IsSome (verified_under r key)
    → verified_under r key ≡ None → ⊥
no_key r key digest none = absurd_of (sym (ap is_some none) ∙ digest)
  where
    absurd_of : false ≡ true → ⊥
    absurd_of is = cc

-- the key of a user who has a secret, or has none
abbrev key_with : Realm → ClientSeen → Option UserSecret → List ℕ
key_with realm client o =
    unwrap_or (option_and_then (λ (u : RegisteredUser). key_of realm.users u client.algorithm)
    (option_map (λ (secret : UserSecret). record { username = client.name; secret = secret }) o)) []

module _ (realm : Realm) (name : List ℕ) (r : Reading) where
  -- the secret of each name once one has another
  secret_of : (o : Option UserSecret) (n : List ℕ)
      → fin.get (with_secret_at realm name o).users.secrets n
      ≡ cond (eq_by_cmp name_cmp n name) o (fin.get realm.users.secrets n)
  secret_of None n = fin.get-remove nat_list_cmp_total realm.users.secrets name n
  secret_of (Some secret) n =
      fin.get-insert nat_list_cmp_total realm.users.secrets name secret n

  -- nobody who is accepted is that user
  is_another : (one : UserSecret) → VerifiesUnderNone realm.users name one r → (nonce : List ℕ)
      (client : ClientSeen) → IsAcceptedBy (with_secret_at realm name (Some one)) nonce r client
      → eq_by_cmp name_cmp client.name name ≡ false
  is_another one under nonce client accepted = by (eq_by_cmp name_cmp client.name name) refl
    where
      some_same : (a b : UserSecret) → Some a ≡ Some b → a ≡ b
      some_same a b is = cc

      by : (b : Bool) → eq_by_cmp name_cmp client.name name ≡ b
          → eq_by_cmp name_cmp client.name name ≡ false
      by true same =
          let secret_is : accepted.accepted.secret ≡ one = some_same accepted.accepted.secret one
          (sym accepted.accepted.present ∙ secret_of (Some one) client.name
          ∙ ap (λ b. cond b (Some one) (fin.get realm.users.secrets client.name)) same) in
          let key_is : key_from client.algorithm name realm.users.realm one
          ≡ Some accepted.accepted.key =
          ap (λ n. key_from client.algorithm n realm.users.realm one)
          (sym (tied client.name name same))
          ∙ ap (key_from client.algorithm client.name realm.users.realm) (sym secret_is)
          ∙ accepted.accepted.key_is in
          absurd (no_key r accepted.accepted.key accepted.accepted.digest
          (under client.algorithm accepted.accepted.key key_is))
      by false same = same

  -- so their key does not depend on the user's secret
  key-alike : (one : UserSecret) (other : Option UserSecret)
      → VerifiesUnderNone realm.users name one r → (nonce : List ℕ) (client : ClientSeen)
      → IsAcceptedBy (with_secret_at realm name (Some one)) nonce r client
      → key_of_client (with_secret_at realm name (Some one)) client
      ≡ key_of_client (with_secret_at realm name other) client
  key-alike one other under nonce client accepted =
      let another = is_another one under nonce client accepted in
      let rest = fin.get realm.users.secrets client.name in
      ap (key_with realm client)
      (secret_of (Some one) client.name ∙ ap (λ b. cond b (Some one) rest) another
      ∙ sym (ap (λ b. cond b other rest) another) ∙ sym (secret_of other client.name))

-- ---- what a datagram comes to

pub received-alike : (s : Settings) (realm : Realm) (name : List ℕ) (one other : UserSecret)
    (from : SocketAddr) (now : ℕ) (bytes : List ℕ)
    → VerifiesUnderNone realm.users name one (reading_of bytes)
    → VerifiesUnderNone realm.users name other (reading_of bytes)
    → received_by s (with_secret_at realm name (Some one)) from now bytes
    ≡ received_by s (with_secret_at realm name (Some other)) from now bytes
received-alike s realm name one other from now bytes under_one under_other =
    let r = reading_of bytes in
    outcomes-alike s (with_secret_at realm name (Some one)) (with_secret_at realm name (Some other))
    from now bytes (record {
      verdicts = λ nonce. ap (unless_unoffered realm r)
          (verdict-alike realm.users name one other r under_one under_other realm.feature nonce
          (Some realm.offered));
      keys = key-alike realm name r one (Some other) under_one;
    })

pub received-unregistered : (s : Settings) (realm : Realm) (name : List ℕ) (secret : UserSecret)
    (from : SocketAddr) (now : ℕ) (bytes : List ℕ)
    → (reading_of bytes).userhash ≡ None → (reading_of bytes).username ≡ Some name
    → VerifiesUnderNone realm.users name secret (reading_of bytes)
    → received_by s (with_secret_at realm name (Some secret)) from now bytes
    ≡ received_by s (with_secret_at realm name None) from now bytes
received-unregistered s realm name secret from now bytes no_hash is under =
    let r = reading_of bytes in
    outcomes-alike s (with_secret_at realm name (Some secret)) (with_secret_at realm name None)
    from now bytes (record {
      verdicts = λ nonce. ap (unless_unoffered realm r)
          (verdict-unregistered realm.users name secret realm.feature nonce (Some realm.offered) r
          no_hash is under);
      keys = key-alike realm name r secret None under;
    })
