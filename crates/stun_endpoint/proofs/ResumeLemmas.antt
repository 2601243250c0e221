-- The user who is looked up is the one whom a table of all users finds, so both judge alike.
use Rattle.std.proofs.Common.{◌≡◌, inl, inr, ℕ, zero, suc, List, [], refl}
use Rattle.std.proofs.Common.{Option, Some, None, sym, ◌∙◌, ap, Ok, Err}
use Rattle.std.specs.Prelude.{cond, unwrap_or}
use Rattle.std.specs.Option.{option_and_then}
use Rattle.std.specs.declared.net.socket_addr.SocketAddr.{SocketAddr}
use Rattle.std.specs.declared.result.Result.{Result}
use Rattle.stun_base.specs.MessageType.{class_in}
use Rattle.stun_base.specs.declared.wire.message_type.MessageClass.{MessageClass}
use Rattle.stun_base.specs.declared.wire.message_type.MessageClass.TheVariants.{Request}
use Rattle.stun_base.specs.declared.wire.message_type.MessageClass.TheVariants.{Indication}
use Rattle.stun_base.specs.declared.wire.message_type.MessageClass.TheVariants.{Success, Error}
use Rattle.stun_judging.specs.declared.algorithm_set.AlgorithmSet.{AlgorithmSet}
use Rattle.stun_judging.specs.declared.feature.Feature.{Feature}
use Rattle.stun_judging.specs.declared.refusal.VerdictRefusal.{VerdictRefusal}
use Rattle.stun_judging.specs.Verdict.{or_before, ClientSeen, verdict_offering}
use Rattle.stun_judging.specs.Named.{Named, just, named_in, user_of}
use Rattle.stun_judging.specs.Reading.{Reading, reading_of}
use Rattle.stun_judging.specs.Registered.{Registered, at_realm, key_at}
use Rattle.stun_judging.proofs.TableUsers.{key_alone_at}
use Rattle.stun_endpoint.specs.Judged.{IsAcceptedAt, IsAcceptedBy, IsAcceptedByPrevious}
use Rattle.stun_endpoint.specs.Judged.{IsAcceptedUnder, Realm, has_other_realm, judged}
use Rattle.stun_endpoint.specs.Judged.{judged_under, key_of_client, or_previous, realm_of_user}
use Rattle.stun_endpoint.specs.Judged.{verdict_under}
use Rattle.stun_endpoint.specs.Lookups.{LookupSeen, identified_by, looked_up}
use Rattle.stun_endpoint.specs.Nonces.{epoch_of, nonce_in}
use Rattle.stun_endpoint.specs.Received.{Outcome, by_class, by_verdict, dropped}
use Rattle.stun_endpoint.specs.Received.{outcome_of_accepted, received_by, received_for}
use Rattle.stun_endpoint.specs.Received.{unless_dropped}
use Rattle.stun_endpoint.specs.Responding.{drop_reason}
use Rattle.stun_endpoint.specs.Settings.{Settings, registered_of}
use Rattle.stun_endpoint.specs.declared.received.DropReason.TheVariants.{OtherRealm}
use Rattle.stun_endpoint.proofs.AcceptedLemmas.{accepted_at}
use Rattle.stun_endpoint.proofs.IdentifiedLemmas.{waits_under}

-- the law of the crate below, which is that of whom a message names
abbrev IsEnough : Type 0
IsEnough = (realm users : Registered) (feature : Feature) (nonce : List ℕ)
    (supported : AlgorithmSet) (r : Reading)
    → verdict_offering (at_realm realm (just users (option_and_then (user_of users)
    (named_in r.userhash r.username feature)))) feature nonce supported r
    ≡ verdict_offering (at_realm realm users) feature nonce supported r

module _ (s : Settings) (all : Registered) (named : Named)
    (from : SocketAddr) (now : ℕ) (r : Reading) (enough : IsEnough)
    (names : named_in r.userhash r.username s.feature ≡ Some named) where
  abbrev many : Realm
  many = realm_of_user s (Some all)

  abbrev one : Realm
  one = realm_of_user s (Some (just all (user_of all named)))

  same : (nonce : List ℕ) → verdict_under one nonce r ≡ verdict_under many nonce r
  same nonce =
      ap (λ (o : Option Named). verdict_offering
      (at_realm (registered_of s) (just all (option_and_then (user_of all) o))) s.feature nonce
      s.algorithms r) (sym names)
      ∙ enough (registered_of s) all s.feature nonce s.algorithms r

  same_under : (secret : List ℕ) (e : ℕ)
      → judged_under s one secret from e r ≡ judged_under s many secret from e r
  same_under secret zero = same (nonce_in s secret from 0)
  same_under secret (suc e) = λ i.
      or_before (same (nonce_in s secret from (suc e)) i) (same (nonce_in s secret from e) i)

  same_in : (previous : Option (List ℕ)) (e : ℕ)
      → or_previous s one previous from e r (judged_under s one s.secret from e r)
      ≡ or_previous s many previous from e r (judged_under s many s.secret from e r)
  same_in None e = same_under s.secret e
  same_in (Some secret) e = λ i. or_before (same_under s.secret e i) (same_under secret e i)

  -- a client who is accepted has the same key
  abbrev HasSameKey : ClientSeen → Type 0
  HasSameKey client = key_of_client one client ≡ key_of_client many client

  of_one : (nonce : List ℕ) (client : ClientSeen) → IsAcceptedBy many nonce r client
      → HasSameKey client
  of_one nonce client a =
      ap (λ (o : Option Named).
      unwrap_or (key_at
      (at_realm (registered_of s) (just all (option_and_then (user_of all) o))) client.name
      client.algorithm) []) (sym names)
      ∙ ap (λ o. unwrap_or o [])
      (key_alone_at (registered_of s) all s.feature r client.name a.accepted.secret
      client.algorithm a.accepted.named a.accepted.present)

  of_under : (client : ClientSeen) (secret : List ℕ) (e : ℕ)
      → IsAcceptedUnder s many secret from e r client → HasSameKey client
  of_under client secret zero a = of_one (nonce_in s secret from 0) client a
  of_under client secret (suc e) (inl a) = of_one (nonce_in s secret from (suc e)) client a
  of_under client secret (suc e) (inr a) = of_one (nonce_in s secret from e) client a

  of_previous : (client : ClientSeen) (previous : Option (List ℕ)) (e : ℕ)
      → IsAcceptedByPrevious s many previous from e r client → HasSameKey client
  of_previous client None e a = absurd a
  of_previous client (Some secret) e a = of_under client secret e a

  has_same_key : (client : ClientSeen) → IsAcceptedAt s many from now r client → HasSameKey client
  has_same_key client (inl a) = of_under client s.secret (epoch_of s now) a
  has_same_key client (inr a) = of_previous client s.previous (epoch_of s now) a

  by_case : (bytes : List ℕ) (v : Result ClientSeen VerdictRefusal)
      → judged s many from now r ≡ v
      → by_verdict s one from now bytes v ≡ by_verdict s many from now bytes v
  by_case bytes (Ok client) is =
      ap (λ k. outcome_of_accepted s k from bytes client)
      (has_same_key client ((accepted_at s many from r client (epoch_of s now)).0 is))
  by_case bytes (Err why) is = refl

  pub same_verdict : (bytes : List ℕ)
      → by_verdict s one from now bytes (judged s one from now r)
      ≡ by_verdict s many from now bytes (judged s many from now r)
  same_verdict bytes =
      ap (by_verdict s one from now bytes) (same_in s.previous (epoch_of s now))
      ∙ by_case bytes (judged s many from now r) refl

module _ (enough : IsEnough) (s : Settings) (all : Registered) where
  same_class : (from : SocketAddr) (now : ℕ) (bytes : List ℕ) (named : Named)
      → named_in (reading_of bytes).userhash (reading_of bytes).username s.feature ≡ Some named
      → (class : MessageClass)
      → by_class s (realm_of_user s (Some (just all (user_of all named)))) from now bytes class
      ≡ by_class s (realm_of_user s (Some all)) from now bytes class
  same_class from now bytes named names Request =
      same_verdict s all named from now (reading_of bytes) enough names bytes
  same_class from now bytes named names Indication = refl
  same_class from now bytes named names Success = refl
  same_class from now bytes named names Error = refl

  pub resumed_is_received : (from : SocketAddr) (now : ℕ) (bytes : List ℕ) (lookup : LookupSeen)
      → identified_by s from now bytes ≡ looked_up lookup
      → received_for s (Some (just all (user_of all lookup.user))) lookup.from lookup.arrived
      lookup.message
      ≡ received_for s (Some all) from now bytes
  resumed_is_received from now bytes lookup h =
      let w = waits_under s from now bytes lookup h in
      let one = realm_of_user s (Some (just all (user_of all lookup.user))) in
      let names : named_in (reading_of bytes).userhash (reading_of bytes).username s.feature
      ≡ Some lookup.user =
      ap (λ b. named_in (reading_of b).userhash (reading_of b).username s.feature) (sym w.0)
      ∙ w.3.user in
      ap (cond {A = Outcome} (has_other_realm s (Some all)) (dropped OtherRealm))
      ((λ i. received_by s one (w.1 i) (w.2 i) (w.0 i))
      ∙ ap (λ x. unless_dropped x (drop_reason s.requires_fingerprint bytes))
      (same_class from now bytes lookup.user names (class_in bytes)))
