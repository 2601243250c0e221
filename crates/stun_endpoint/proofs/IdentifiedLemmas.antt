-- What is done needs no user, and what waits has an accepted nonce.
use Rattle.std.proofs.Common.{◌≡◌, inl, inr, ℕ, List, [], ◌∷◌, Option, Some, None}
use Rattle.std.proofs.Common.{Bool, true, false, refl, sym, subst, ◌∙◌, ap}
use Rattle.std.specs.Prelude.{cond, ◌||◌, ◌&&◌}
use Rattle.std.specs.Option.{is_some, unwrap_or}
use Rattle.std.specs.Str.{bytes_eq}
use Rattle.std.proofs.lemmas.Slice.Eq.{bytes_eq-Decides}
use Rattle.std.specs.declared.net.socket_addr.SocketAddr.{SocketAddr}
use Rattle.stun_base.specs.MessageType.{class_in}
use Rattle.stun_base.specs.declared.wire.message_type.MessageClass.{MessageClass}
use Rattle.stun_base.specs.declared.wire.message_type.MessageClass.TheVariants.{Request}
use Rattle.stun_base.specs.declared.wire.message_type.MessageClass.TheVariants.{Indication}
use Rattle.stun_base.specs.declared.wire.message_type.MessageClass.TheVariants.{Success, Error}
use Rattle.stun_judging.specs.Named.{Named, named_in}
use Rattle.stun_judging.specs.Reading.{Reading, reading_of, is_complete}
use Rattle.stun_judging.specs.Registered.{Registered}
use Rattle.stun_judging.specs.Verdict.{agreement_offering, their_nonce}
use Rattle.stun_endpoint.specs.Judged.{has_other_realm, realm_of_user}
use Rattle.stun_endpoint.specs.Lookups.{Identification, IsOneOf, LookupSeen, WaitsUnderItsNonce}
use Rattle.stun_endpoint.specs.Lookups.{accepted_nonces, awaited, done, has_one_of, identified_as}
use Rattle.stun_endpoint.specs.Lookups.{identified_by, is_ready, looked_up, waiting_by_class}
use Rattle.stun_endpoint.specs.Lookups.{waits_for}
use Rattle.stun_endpoint.specs.Nonces.{epoch_of}
use Rattle.stun_endpoint.specs.Received.{Outcome, by_class, by_verdict, received_by}
use Rattle.stun_endpoint.specs.Received.{received_for, unless_dropped}
use Rattle.stun_endpoint.specs.Responding.{drop_reason}
use Rattle.stun_endpoint.specs.Settings.{Settings}
use Rattle.stun_endpoint.specs.declared.received.DropReason.{DropReason}
use Rattle.stun_endpoint.proofs.RealmLemmas.{received_of_own}
use Rattle.stun_endpoint.proofs.UnnamedLemmas.{unnamed_is_refused}

-- the look-up, or a value in its place
abbrev lookup_or : LookupSeen → Identification → LookupSeen
lookup_or l (done outcome) = l
lookup_or l (looked_up lookup) = lookup

module _ (s : Settings) (from : SocketAddr) (now : ℕ) (bytes : List ℕ) where
  -- ---- what is done

  same_class : (one other : Option Registered) (class : MessageClass)
      → waiting_by_class s from now bytes class ≡ None
      → by_class s (realm_of_user s one) from now bytes class
      ≡ by_class s (realm_of_user s other) from now bytes class
  same_class one other Request h =
      ap (by_verdict s (realm_of_user s one) from now bytes)
      (unnamed_is_refused s (reading_of bytes) (realm_of_user s one).users from (epoch_of s now) h)
      ∙ sym (ap (by_verdict s (realm_of_user s other) from now bytes)
      (unnamed_is_refused s (reading_of bytes) (realm_of_user s other).users from (epoch_of s now)
      h))
  same_class one other Indication h = refl
  same_class one other Success h = refl
  same_class one other Error h = refl

  same_rest : (why : Option DropReason) (waiting : Option Named) (one other : Outcome)
      → (waiting ≡ None → one ≡ other) → cond (is_some why) None waiting ≡ None
      → unless_dropped one why ≡ unless_dropped other why
  same_rest (Some why) waiting one other same h = refl
  same_rest None waiting one other same h = same h

  same_for_all : (one other : Option Registered) → awaited s from now bytes ≡ None
      → received_by s (realm_of_user s one) from now bytes
      ≡ received_by s (realm_of_user s other) from now bytes
  same_for_all one other h =
      same_rest (drop_reason s.requires_fingerprint bytes)
      (waiting_by_class s from now bytes (class_in bytes))
      (by_class s (realm_of_user s one) from now bytes (class_in bytes))
      (by_class s (realm_of_user s other) from now bytes (class_in bytes))
      (same_class one other (class_in bytes)) h

  done_if_none : (o : Option Named) (outcome : Outcome)
      → identified_as s from now bytes o ≡ done outcome
      → (o ≡ None) × (received_by s (realm_of_user s None) from now bytes ≡ outcome)
  done_if_none None outcome h = (refl, cc)
  done_if_none (Some user) outcome h = cc

  pub done_for_all : (outcome : Outcome) → identified_by s from now bytes ≡ done outcome
      → (user : Option Registered) → has_other_realm s user ≡ false
      → received_for s user from now bytes ≡ outcome
  done_for_all outcome h user own =
      let none = done_if_none (awaited s from now bytes) outcome h in
      received_of_own s user from now bytes own ∙ same_for_all user None none.0 ∙ none.1

  -- ---- what waits

  looked_up_if : (o : Option Named) (l : LookupSeen)
      → identified_as s from now bytes o ≡ looked_up l
      → (user : Named) × (o ≡ Some user)
      × (record { message = bytes; from = from; arrived = now; user = user } ≡ l)
  looked_up_if None l h = cc
  looked_up_if (Some user) l h = (user, refl, ap (lookup_or l) h)

  class_of_waiting : (class : MessageClass) (user : Named)
      → waiting_by_class s from now bytes class ≡ Some user
      → waits_for s from (epoch_of s now) (reading_of bytes) ≡ Some user
  class_of_waiting Request user h = h
  class_of_waiting Indication user h = cc
  class_of_waiting Success user h = cc
  class_of_waiting Error user h = cc

  read_of_waiting : (a : Bool) (waiting : Option Named) (user : Named)
      → cond a None waiting ≡ Some user → waiting ≡ Some user
  read_of_waiting true waiting user h = cc
  read_of_waiting false waiting user h = h

  given_if : (b c : Bool) (o : Option Named) (user : Named) → cond (b && c) o None ≡ Some user
      → (b ≡ true) × (c ≡ true) × (o ≡ Some user)
  given_if true true o user h = (refl, refl, h)
  given_if true false o user h = cc
  given_if false c o user h = cc

  there : (o : Option (List ℕ)) → is_some o ≡ true → o ≡ Some (unwrap_or o [])
  there None h = cc
  there (Some x) h = refl

  first_two : (a b c : Bool) → (a && b && c) ≡ true → (a ≡ true) × (b ≡ true)
  first_two true true c h = (refl, refl)
  first_two true false c h = cc
  first_two false b c h = cc

  first_or_later : (r : Reading) (nonce : List ℕ) (nonces : List (List ℕ)) (b : Bool)
      → bytes_eq (their_nonce r) nonce ≡ b → (b || has_one_of r nonces) ≡ true
      → (has_one_of r nonces ≡ true → IsOneOf (their_nonce r) nonces)
      → IsOneOf (their_nonce r) (nonce ∷ nonces)
  first_or_later r nonce nonces true is h later =
      inl ((bytes_eq-Decides (their_nonce r) nonce).0 is)
  first_or_later r nonce nonces false is h later = inr (later h)

  is_one : (r : Reading) (nonces : List (List ℕ)) → has_one_of r nonces ≡ true
      → IsOneOf (their_nonce r) nonces
  is_one r [] h = cc
  is_one r (nonce ∷ nonces) h =
      first_or_later r nonce nonces (bytes_eq (their_nonce r) nonce) refl h (is_one r nonces)

  waiting_under : (user : Named) → waits_for s from (epoch_of s now) (reading_of bytes) ≡ Some user
      → WaitsUnderItsNonce s
      (record { message = bytes; from = from; arrived = now; user = user })
  waiting_under user h =
      let r = reading_of bytes in
      let parts =
      given_if (is_ready s r) (has_one_of r (accepted_nonces s from (epoch_of s now)))
      (named_in r.userhash r.username s.feature) user h in
      let ready =
      first_two (is_some r.integrity) (is_complete r)
      (is_some (agreement_offering s.algorithms r)) parts.0 in
      let whole =
      first_two (is_some r.realm) (is_some r.nonce)
      (is_some r.userhash || is_some r.username) ready.1 in
      record {
        signed = ready.0;
        user = parts.2;
        nonce = their_nonce r;
        theirs = there r.nonce whole.1;
        accepted = is_one r (accepted_nonces s from (epoch_of s now)) parts.1;
      }

  pub waits_under : (l : LookupSeen) → identified_by s from now bytes ≡ looked_up l
      → (l.message ≡ bytes) × (l.from ≡ from) × (l.arrived ≡ now) × WaitsUnderItsNonce s l
  waits_under l h =
      let parts = looked_up_if (awaited s from now bytes) l h in
      let waiting =
      class_of_waiting (class_in bytes) parts.0
      (read_of_waiting (is_some (drop_reason s.requires_fingerprint bytes))
      (waiting_by_class s from now bytes (class_in bytes)) parts.0 parts.1) in (
        sym (ap (λ (x : LookupSeen). x.message) parts.2),
        sym (ap (λ (x : LookupSeen). x.from) parts.2),
        sym (ap (λ (x : LookupSeen). x.arrived) parts.2),
        subst (WaitsUnderItsNonce s) parts.2 (waiting_under parts.0 waiting),
      )
