-- The first check that a request fails is the one for which the verdict refuses it, and an accepted
-- request fails none.
use Rattle.std.proofs.Common.{◌≡◌, ◌⊎◌, inl, inr, ℕ, zero, suc, List, [], ◌∷◌, Option, Some, None}
use Rattle.std.proofs.Common.{Bool, true, false, refl, sym, ◌∙◌, ap, Ok, Err}
use Rattle.std.specs.Prelude.{cond, not, ◌||◌, ◌&&◌}
use Rattle.std.specs.Option.{is_none, is_some, unwrap_or}
use Rattle.std.specs.Str.{bytes_eq}
use Rattle.std.proofs.lemmas.Slice.Eq.{bytes_eq-Decides}
use Rattle.std.specs.declared.net.socket_addr.SocketAddr.{SocketAddr}
use Rattle.std.specs.declared.result.Result.{Result}
use Rattle.stun_base.specs.declared.keys.algorithm.IntegrityAlgorithm.{IntegrityAlgorithm}
use Rattle.stun_judging.specs.declared.refusal.VerdictRefusal.{VerdictRefusal}
use Rattle.stun_judging.specs.declared.refusal.VerdictRefusal.TheVariants as refused
use Rattle.stun_judging.specs.Verdict.{or_before, ClientSeen, agreement_offering, bits_differ}
use Rattle.stun_judging.specs.Verdict.{client_of, nonce_refusal, their_nonce, verified_named}
use Rattle.stun_judging.specs.Nonces.{security_bits}
use Rattle.stun_judging.specs.Reading.{Reading, is_complete, is_malformed}
use Rattle.stun_judging.proofs.Accepting.{offering_from_verdict, offering_rows}
use Rattle.stun_judging.proofs.Accepting.{verdict_from_offering}
use Rattle.stun_judging.proofs.VerdictLemmas.{by_rows}
use Rattle.stun_endpoint.specs.Causes.{credential_cause, has_other_bits, is_agreed, is_current}
use Rattle.stun_endpoint.specs.Causes.{is_signed_by_user}
use Rattle.stun_endpoint.specs.Judged.{IsAcceptedBy, IsAcceptedByPrevious, IsAcceptedUnder}
use Rattle.stun_endpoint.specs.Judged.{Realm, judged, judged_in, judged_under, or_previous}
use Rattle.stun_endpoint.specs.Judged.{verdict_under}
use Rattle.stun_endpoint.specs.Lookups.{accepted_nonces, has_one_of, nonces_of, previous_nonces}
use Rattle.stun_endpoint.specs.Nonces.{current_nonce, epoch_of, nonce_in}
use Rattle.stun_endpoint.specs.Settings.{Settings, registered_of}
use Rattle.stun_endpoint.specs.code.Refusing.{cause_by_refusal, cause_told, is_unauthorized}
use Rattle.stun_endpoint.specs.code.Refusing.{verdict_under_none}
use Rattle.stun_endpoint.specs.declared.server.causes.Cause.{Cause}
use Rattle.stun_endpoint.specs.declared.server.causes.Cause.TheVariants.{NoSignature, Incomplete}
use Rattle.stun_endpoint.specs.declared.server.causes.Cause.TheVariants.{OtherAlgorithms}
use Rattle.stun_endpoint.specs.declared.server.causes.Cause.TheVariants.{OtherFeatures, StaleNonce}
use Rattle.stun_endpoint.specs.declared.server.causes.Cause.TheVariants.{WrongCredentials}
use Rattle.stun_endpoint.proofs.NonceLemmas.{bits_alike}
use Rattle.stun_endpoint.proofs.AcceptedLemmas.{accepted_at, bits-same}
use Rattle.stun_endpoint.proofs.ReadyLemmas.{nonce_in-there, stale_for_all}
use Rattle.stun_endpoint.proofs.TheirNonceLemmas.{accepted_has, has_it, under_accepted}

-- ---- the checks and the rows of the verdict

-- the checks of `credential_cause`, as tests
abbrev checks : Bool → Bool → Bool → Bool → Bool → Bool → Bool → Option Cause
checks unsigned complete agreed current other_bits one signed =
    cond unsigned (Some NoSignature)
    (cond (not complete) (Some Incomplete)
    (cond (not agreed) (Some (cond current OtherAlgorithms StaleNonce))
    (cond other_bits (Some OtherFeatures)
    (cond (not (current || (one && signed))) (Some StaleNonce)
    (cond (not signed) (Some WrongCredentials) None)))))

-- the cause of what a client is told, as tests
abbrev told_by : Bool → Bool → Bool → VerdictRefusal → Cause
told_by bare current malformed refused.Unauthorized =
    cond bare NoSignature (cond current WrongCredentials OtherFeatures)
told_by bare current malformed refused.StaleNonce = StaleNonce
told_by bare current malformed refused.BadRequest = cond malformed Incomplete OtherAlgorithms

abbrev told_as : Bool → VerdictRefusal → VerdictRefusal
told_as bad refused.Unauthorized = refused.Unauthorized
told_as bad refused.StaleNonce = refused.StaleNonce
told_as bad refused.BadRequest = cond bad refused.BadRequest refused.StaleNonce

abbrev of_verdict : Bool → Bool → Bool → Bool → Result ClientSeen VerdictRefusal → Option Cause
of_verdict bad bare current malformed (Ok client) = None
of_verdict bad bare current malformed (Err why) =
    Some (told_by bare current malformed (told_as bad why))

-- the first check that fails is that of the first row that holds. `empty` is whether the nonce is
-- empty, and the last rows are those of the verdict under the empty nonce
table : (a b c g q x one h empty d f : Bool) (client other : ClientSeen)
    → (empty ≡ true → (q ≡ false) × (x ≡ false)) → (q ≡ true → x ≡ false)
    → (a ≡ false → b ≡ false → c ≡ false → g ≡ true → h ≡ true → one ≡ true → ⊥)
    → checks a (not b && not c) g q x one h
    ≡ of_verdict ((not a && not (not b && not c)) || q)
    (is_unauthorized (by_rows a b c d (not empty) f refused.StaleNonce other)) q
    ((not a && not (not b && not c)) || empty)
    (by_rows a b c (not g) (not q) (not h) (cond x refused.Unauthorized refused.StaleNonce) client)
table true b c g q x one h empty d f client other unlike same found = refl
table false true c g q x one h empty d f client other unlike same found = refl
table false false true g q x one h empty d f client other unlike same found = refl
table false false false false true x one h true d f client other unlike same found =
    let wrong : true ≡ false = (unlike refl).0 in cc
table false false false false true x one h false d f client other unlike same found = refl
table false false false false false x one h empty d f client other unlike same found = refl
table false false false true true true one h empty d f client other unlike same found =
    let wrong : true ≡ false = same refl in cc
table false false false true true false one h true d f client other unlike same found =
    let wrong : true ≡ false = (unlike refl).0 in cc
table false false false true true false one true false d f client other unlike same found = refl
table false false false true true false one false false true f client other unlike same found =
    refl
table false false false true true false one false false false f client other unlike same found =
    refl
table false false false true false true one h true d f client other unlike same found =
    let wrong : true ≡ false = (unlike refl).1 in cc
table false false false true false true one h false true f client other unlike same found = refl
table false false false true false true one h false false f client other unlike same found = refl
table false false false true false false true true empty d f client other unlike same found =
    absurd (found refl refl refl refl refl refl)
table false false false true false false true false empty d f client other unlike same found = refl
table false false false true false false false h empty d f client other unlike same found = refl

none_not : {X : Type 0} (o : Option X) → is_none o ≡ not (is_some o)
none_not None = refl
none_not (Some x) = refl

some_not : {X : Type 0} (o : Option X) → is_some o ≡ not (is_none o)
some_not None = refl
some_not (Some x) = refl

complete_rows : (realm nonce hash name : Option (List ℕ))
    → (is_some realm && is_some nonce && (is_some hash || is_some name))
    ≡ (not (is_none realm || is_none nonce) && not (is_none hash && is_none name))
complete_rows None nonce hash name = refl
complete_rows (Some realm) None hash name = refl
complete_rows (Some realm) (Some nonce) None None = refl
complete_rows (Some realm) (Some nonce) None (Some name) = refl
complete_rows (Some realm) (Some nonce) (Some hash) name = refl

same_told : (s : Settings) (ours : List ℕ) (r : Reading) (why : VerdictRefusal)
    → told_by (is_unauthorized (verdict_under_none s r)) (bytes_eq (their_nonce r) ours)
    (is_malformed r || bytes_eq (their_nonce r) [])
    (told_as (is_malformed r || bytes_eq (their_nonce r) ours) why)
    ≡ cause_by_refusal s ours r why
same_told s ours r refused.Unauthorized = refl
same_told s ours r refused.StaleNonce = refl
same_told s ours r refused.BadRequest = by (is_malformed r || bytes_eq (their_nonce r) ours)
  where
    by : (b : Bool)
        → told_by (is_unauthorized (verdict_under_none s r)) (bytes_eq (their_nonce r) ours)
        (is_malformed r || bytes_eq (their_nonce r) [])
        (cond b refused.BadRequest refused.StaleNonce)
        ≡ cause_told s ours r (cond b refused.BadRequest refused.StaleNonce)
    by true = refl
    by false = refl

-- ---- the nonces

-- the empty nonce has no security bits
no_bits : (bits : Option (List ℕ)) → bits_differ bits (security_bits []) ≡ false
unfolding security_bits
no_bits None = refl
no_bits (Some b) = refl

-- where a verdict is tried again, it was refused in the same way
refused_before : (v before : Result ClientSeen VerdictRefusal) (why : VerdictRefusal)
    → or_before v before ≡ Err why → v ≡ Err why
refused_before (Ok client) before why h = h
refused_before (Err refused.Unauthorized) before why h = h
refused_before (Err refused.BadRequest) before why h = h
refused_before (Err refused.StaleNonce) (Ok client) why h = cc
refused_before (Err refused.StaleNonce) (Err other) why h = h

-- the rows of an accepted request
rows_fail : (a b c d e f : Bool) (n : VerdictRefusal) (client other : ClientSeen)
    → by_rows a b c d e f n client ≡ Ok other
    → (a ≡ false) × (b ≡ false) × (c ≡ false) × (d ≡ false) × (f ≡ false)
rows_fail true b c d e f n client other h = cc
rows_fail false true c d e f n client other h = cc
rows_fail false false true d e f n client other h = cc
rows_fail false false false true e f n client other h = cc
rows_fail false false false false true f n client other h = cc
rows_fail false false false false false true n client other h = cc
rows_fail false false false false false false n client other h = (refl, refl, refl, refl, refl)

no_check_fails : (a b c d f q x one : Bool) → a ≡ false → b ≡ false → c ≡ false → d ≡ false
    → f ≡ false → x ≡ false → one ≡ true
    → checks a (not b && not c) (not d) q x one (not f) ≡ None
no_check_fails true b c d f q x one ha hb hc hd hf hx ho = cc
no_check_fails false true c d f q x one ha hb hc hd hf hx ho = cc
no_check_fails false false true d f q x one ha hb hc hd hf hx ho = cc
no_check_fails false false false true f q x one ha hb hc hd hf hx ho = cc
no_check_fails false false false false true q x one ha hb hc hd hf hx ho = cc
no_check_fails false false false false false q true one ha hb hc hd hf hx ho = cc
no_check_fails false false false false false q false false ha hb hc hd hf hx ho = cc
no_check_fails false false false false false true false true ha hb hc hd hf hx ho = refl
no_check_fails false false false false false false false true ha hb hc hd hf hx ho = refl

rows_hold : (a b c d q f : Bool) (n : VerdictRefusal) (client : ClientSeen) → a ≡ false
    → b ≡ false → c ≡ false → d ≡ false → q ≡ true → f ≡ false
    → by_rows a b c d (not q) f n client ≡ Ok client
rows_hold true b c d q f n client ha hb hc hd hq hf = cc
rows_hold false true c d q f n client ha hb hc hd hq hf = cc
rows_hold false false true d q f n client ha hb hc hd hq hf = cc
rows_hold false false false true q f n client ha hb hc hd hq hf = cc
rows_hold false false false false false f n client ha hb hc hd hq hf = cc
rows_hold false false false false true true n client ha hb hc hd hq hf = cc
rows_hold false false false false true false n client ha hb hc hd hq hf = refl

module _ (s : Settings) (realm : Realm) (from : SocketAddr) (r : Reading) where
  abbrev unsigned : Bool
  unsigned = is_none r.integrity

  abbrev lacks : Bool
  lacks = is_none r.realm || is_none r.nonce

  abbrev nameless : Bool
  nameless = is_none r.userhash && is_none r.username

  abbrev agreed : Option IntegrityAlgorithm
  agreed = agreement_offering realm.offered r

  abbrev signer : Option IntegrityAlgorithm
  signer = verified_named realm.users realm.feature r agreed

  abbrev meant : ClientSeen
  meant = client_of realm.users realm.feature [] (Some realm.offered) r

  rows : (ours : List ℕ) → verdict_under realm ours r
      ≡ by_rows unsigned lacks nameless (is_none agreed) (not (bytes_eq (their_nonce r) ours))
      (is_none signer) (nonce_refusal ours (their_nonce r)) meant
  rows ours = offering_rows realm.users realm.feature ours realm.offered r

  complete : is_complete r ≡ (not lacks && not nameless)
  complete = complete_rows r.realm r.nonce r.userhash r.username

  -- the checks are those of the rows
  as_checks : (now : ℕ) → credential_cause s realm from now r
      ≡ checks unsigned (not lacks && not nameless) (is_some agreed) (is_current s from now r)
      (has_other_bits (current_nonce s from now) r)
      (has_one_of r (accepted_nonces s from (epoch_of s now))) (is_some signer)
  as_checks now =
      ap (λ k. checks unsigned k (is_some agreed) (is_current s from now r)
      (has_other_bits (current_nonce s from now) r)
      (has_one_of r (accepted_nonces s from (epoch_of s now))) (is_some signer)) complete

  -- ---- an accepted request
  -- all nonces have the same security bits
  bits_of_nonce : (secret : List ℕ) (e now : ℕ) → their_nonce r ≡ nonce_in s secret from e
      → has_other_bits (current_nonce s from now) r ≡ false
  bits_of_nonce secret e now is =
      ap (λ n. bits_differ (security_bits (current_nonce s from now)) (security_bits n)) is
      ∙ ap (λ bits. bits_differ (security_bits (current_nonce s from now)) bits)
      (bits_alike s secret s.secret from from e (epoch_of s now))
      ∙ bits-same (security_bits (current_nonce s from now))

  -- an accepted request fails no check of its credentials
  pub accepted_cause : (now : ℕ) (client : ClientSeen) → judged s realm from now r ≡ Ok client
      → credential_cause s realm from now r ≡ None
  accepted_cause now client is =
      let e = epoch_of s now in
      let one = accepted_has s realm from r client e is in
      let nonce = nonce_in s one.1.0 from one.1.1 in
      let accepted = one.1.2 in
      let fail =
      rows_fail unsigned lacks nameless (is_none agreed) (not (bytes_eq (their_nonce r) nonce))
      (is_none signer) (nonce_refusal nonce (their_nonce r)) meant client
      (sym (rows nonce)
      ∙ verdict_from_offering realm.users realm.feature nonce realm.offered r client accepted) in
      let q = is_current s from now r in
      let x = has_other_bits (current_nonce s from now) r in
      let other = has_one_of r (accepted_nonces s from e) in
      as_checks now
      ∙ ap (λ g. checks unsigned (not lacks && not nameless) g q x other (is_some signer))
      (some_not agreed)
      ∙ ap (λ h. checks unsigned (not lacks && not nameless) (not (is_none agreed)) q x other h)
      (some_not signer)
      ∙ no_check_fails unsigned lacks nameless (is_none agreed) (is_none signer) q x other fail.0
      fail.1 fail.2 fail.3 fail.4
      (bits_of_nonce one.1.0 one.1.1 now (has_it s realm from r client nonce accepted)) one.0

  -- ---- a refused request
  refused_under : (secret : List ℕ) (e : ℕ) (why : VerdictRefusal)
      → judged_under s realm secret from e r ≡ Err why
      → verdict_under realm (nonce_in s secret from e) r ≡ Err why
  refused_under secret zero why h = h
  refused_under secret (suc e) why h =
      refused_before (verdict_under realm (nonce_in s secret from (suc e)) r)
      (verdict_under realm (nonce_in s secret from e) r) why h

  refused_by_previous : (previous : Option (List ℕ)) (e : ℕ) (why : VerdictRefusal)
      → or_previous s realm previous from e r (judged_under s realm s.secret from e r) ≡ Err why
      → judged_under s realm s.secret from e r ≡ Err why
  refused_by_previous None e why h = h
  refused_by_previous (Some secret) e why h =
      refused_before (judged_under s realm s.secret from e r) (judged_under s realm secret from e r)
      why h

  -- a request without fault that has an accepted nonce is accepted
  module _ (a : unsigned ≡ false) (b : lacks ≡ false) (c : nameless ≡ false)
      (d : is_none agreed ≡ false) (f : is_none signer ≡ false) where
    accepted_by : (nonce : List ℕ) → bytes_eq (their_nonce r) nonce ≡ true
        → IsAcceptedBy realm nonce r meant
    accepted_by nonce q =
        offering_from_verdict realm.users realm.feature nonce realm.offered r meant
        (rows nonce
        ∙ rows_hold unsigned lacks nameless (is_none agreed) (bytes_eq (their_nonce r) nonce)
        (is_none signer) (nonce_refusal nonce (their_nonce r)) meant a b c d q f)

    accepted_all : (e : ℕ) → has_one_of r (accepted_nonces s from e) ≡ true
        → judged_in s realm from e r ≡ Ok meant
    accepted_all e h =
        under_accepted s realm from r meant
        (accepted_by (their_nonce r)
        ((bytes_eq-Decides (their_nonce r) (their_nonce r)).1 refl)) e h

  not_accepted : (e : ℕ) (why : VerdictRefusal) → judged_in s realm from e r ≡ Err why
      → unsigned ≡ false → lacks ≡ false → nameless ≡ false → is_some agreed ≡ true
      → is_some signer ≡ true → has_one_of r (accepted_nonces s from e) ≡ true → ⊥
  not_accepted e why is a b c g h one =
      let d = none_not agreed ∙ ap not g in
      let f = none_not signer ∙ ap not h in
      let wrong : Err why ≡ Ok meant = sym is ∙ accepted_all a b c d f e one in cc

  -- a refused request fails the check that its refusal tells
  pub refused_cause : (now : ℕ) (why : VerdictRefusal) → judged s realm from now r ≡ Err why
      → credential_cause s realm from now r
      ≡ Some (cause_by_refusal s (current_nonce s from now) r why)
  refused_cause now why is =
      let e = epoch_of s now in
      let ours = current_nonce s from now in
      let q = bytes_eq (their_nonce r) ours in
      let x = has_other_bits ours r in
      let one = has_one_of r (accepted_nonces s from e) in
      let empty = bytes_eq (their_nonce r) [] in
      let d = is_none (agreement_offering s.algorithms r) in
      let f =
      is_none (verified_named (registered_of s) s.feature r
      (agreement_offering s.algorithms r)) in
      let other = client_of (registered_of s) s.feature [] (Some s.algorithms) r in
      let row : Bool → Bool → Result ClientSeen VerdictRefusal = λ g h.
      by_rows unsigned lacks nameless g (not q) h (nonce_refusal ours (their_nonce r)) meant in
      let refused_row : row (not (is_some agreed)) (not (is_some signer)) ≡ Err why =
      sym (ap (λ g. row g (not (is_some signer))) (none_not agreed))
      ∙ sym (ap (row (is_none agreed)) (none_not signer)) ∙ sym (rows ours)
      ∙ refused_under s.secret e why (refused_by_previous s.previous e why is) in
      let none : verdict_under_none s r
      ≡ by_rows unsigned lacks nameless d (not empty) f refused.StaleNonce other =
      offering_rows (registered_of s) s.feature [] s.algorithms r
      ∙ ap (λ n. by_rows unsigned lacks nameless d (not empty) f n other)
      (stale_for_all (their_nonce r)) in
      let malformed : is_malformed r
      ≡ (not unsigned && not (not lacks && not nameless)) =
      ap (λ i. i && not (is_complete r)) (some_not r.integrity)
      ∙ ap (λ k. not unsigned && not k) complete in
      as_checks now
      ∙ table unsigned lacks nameless (is_some agreed) q x one (is_some signer) empty d f meant
      other (unlike now) (alike now) (not_accepted e why is)
      ∙ ap (of_verdict ((not unsigned && not (not lacks && not nameless)) || q)
      (is_unauthorized (by_rows unsigned lacks nameless d (not empty) f refused.StaleNonce other))
      q ((not unsigned && not (not lacks && not nameless)) || empty)) refused_row
      ∙ ap (λ m. of_verdict (m || q)
      (is_unauthorized (by_rows unsigned lacks nameless d (not empty) f refused.StaleNonce other))
      q (m || empty) (Err why)) (sym malformed)
      ∙ ap (λ v. of_verdict (is_malformed r || q) (is_unauthorized v) q (is_malformed r || empty)
      (Err why)) (sym none)
      ∙ ap (λ cause. Some cause) (same_told s ours r why)
    where
      alike : (now : ℕ) → bytes_eq (their_nonce r) (current_nonce s from now) ≡ true
          → has_other_bits (current_nonce s from now) r ≡ false
      alike now q =
          bits_of_nonce s.secret (epoch_of s now) now
          ((bytes_eq-Decides (their_nonce r) (current_nonce s from now)).0 q)

      unlike : (now : ℕ) → bytes_eq (their_nonce r) [] ≡ true
          → (bytes_eq (their_nonce r) (current_nonce s from now) ≡ false)
          × (has_other_bits (current_nonce s from now) r ≡ false)
      unlike now empty =
          let is = (bytes_eq-Decides (their_nonce r) []).0 empty in (
            ap (λ n. bytes_eq n (current_nonce s from now)) is
                ∙ nonce_in-there s s.secret from (epoch_of s now),
            ap (λ n. bits_differ (security_bits (current_nonce s from now)) (security_bits n)) is
                ∙ no_bits (security_bits (current_nonce s from now)),
          )
