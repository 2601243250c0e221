-- A request that waits for nobody is refused alike whoever the users are: for the reason that the
-- current nonce gives.
use Rattle.std.proofs.Common.{◌≡◌, ◌⊎◌, inl, inr, ℕ, zero, suc, List, [], ◌∷◌, ◌++◌}
use Rattle.std.proofs.Common.{Option, Some, None, Bool, true, false, refl, sym, ◌∙◌, ap, Err}
use Rattle.std.specs.Prelude.{cond, not, ◌||◌, ◌&&◌}
use Rattle.std.specs.Option.{is_some, is_none, option_and_then}
use Rattle.std.specs.Str.{bytes_eq}
use Rattle.std.specs.declared.net.socket_addr.SocketAddr.{SocketAddr}
use Rattle.stun_base.specs.declared.keys.algorithm.IntegrityAlgorithm.{IntegrityAlgorithm}
use Rattle.stun_judging.specs.declared.feature.Feature.{Feature}
use Rattle.stun_judging.specs.declared.refusal.VerdictRefusal.{VerdictRefusal}
use Rattle.stun_judging.specs.declared.refusal.VerdictRefusal.TheVariants.{Unauthorized, BadRequest}
use Rattle.stun_judging.specs.declared.refusal.VerdictRefusal.TheVariants.{StaleNonce}
use Rattle.stun_judging.specs.Verdict.{or_before, ClientSeen, agreement_offering, client_of}
use Rattle.stun_judging.specs.Verdict.{named_by, named_user, nonce_refusal, their_nonce}
use Rattle.stun_judging.specs.Verdict.{verdict_offering, verified_for, verified_named}
use Rattle.stun_judging.specs.Feature.{is_possible}
use Rattle.stun_judging.specs.Named.{named_in, by_hash}
use Rattle.stun_judging.specs.Reading.{Reading}
use Rattle.stun_judging.specs.Registered.{Registered, RegisteredUser, user_with_hash}
use Rattle.stun_judging.proofs.Accepting.{offering_rows}
use Rattle.stun_judging.proofs.VerdictLemmas.{by_rows}
use Rattle.stun_endpoint.specs.Judged.{judged_in, judged_under, or_previous}
use Rattle.stun_endpoint.specs.Lookups.{accepted_nonces, has_one_of, is_ready, nonces_of}
use Rattle.stun_endpoint.specs.Lookups.{previous_nonces, waits_for}
use Rattle.stun_endpoint.specs.Nonces.{nonce_in}
use Rattle.stun_endpoint.specs.Settings.{Settings}

-- ---- one nonce

-- why a request is refused under a nonce where no user decides
abbrev pub refusal_under : Settings → Reading → List ℕ → VerdictRefusal
refusal_under s r nonce =
    cond (is_none r.integrity) Unauthorized
    (cond (is_none r.realm || is_none r.nonce) BadRequest
    (cond (is_none r.userhash && is_none r.username) BadRequest
    (cond (is_none (agreement_offering s.algorithms r)) BadRequest
    (cond (not (bytes_eq (their_nonce r) nonce)) (nonce_refusal nonce (their_nonce r))
    Unauthorized))))

pub refused_rows : (a b c d e f : Bool) (n : VerdictRefusal) (client : ClientSeen)
    → (not a && not b && not c && not d && not e && not f) ≡ false
    → by_rows a b c d e f n client
    ≡ Err (cond a Unauthorized (cond b BadRequest (cond c BadRequest (cond d BadRequest
    (cond e n Unauthorized)))))
refused_rows true b c d e f n client h = refl
refused_rows false true c d e f n client h = refl
refused_rows false false true d e f n client h = refl
refused_rows false false false true e f n client h = refl
refused_rows false false false false true f n client h = refl
refused_rows false false false false false true n client h = refl
refused_rows false false false false false false n client h = cc

pub ready_rows : (i : Option (List ℕ → Option IntegrityAlgorithm))
    (realm nonce hash name : Option (List ℕ))
    (a : Option IntegrityAlgorithm)
    → (is_some i && (is_some realm && is_some nonce && (is_some hash || is_some name)) && is_some a)
    ≡ (not (is_none i) && not (is_none realm || is_none nonce)
    && not (is_none hash && is_none name) && not (is_none a))
ready_rows None realm nonce hash name a = refl
ready_rows (Some i) None nonce hash name a = refl
ready_rows (Some i) (Some realm) None hash name a = refl
ready_rows (Some i) (Some realm) (Some nonce) None None a = refl
ready_rows (Some i) (Some realm) (Some nonce) None (Some name) None = refl
ready_rows (Some i) (Some realm) (Some nonce) None (Some name) (Some a) = refl
ready_rows (Some i) (Some realm) (Some nonce) (Some hash) name None = refl
ready_rows (Some i) (Some realm) (Some nonce) (Some hash) name (Some a) = refl

other_nonce : (a b c d q f : Bool) → ((not a && not b && not c && not d) && q) ≡ false
    → (not a && not b && not c && not d && not (not q) && not f) ≡ false
other_nonce true b c d q f h = refl
other_nonce false true c d q f h = refl
other_nonce false false true d q f h = refl
other_nonce false false false true q f h = refl
other_nonce false false false false true f h = cc
other_nonce false false false false false f h = refl

pub unproven : (a b c d e f : Bool) → f ≡ true
    → (not a && not b && not c && not d && not e && not f) ≡ false
unproven true b c d e f h = refl
unproven false true c d e f h = refl
unproven false false true d e f h = refl
unproven false false false true e f h = refl
unproven false false false false true f h = refl
unproven false false false false false f h = ap not h

-- who names nobody means no registered user
nobody_named : (users : Registered) (feature : Feature) (hash name : Option (List ℕ))
    → named_in hash name feature ≡ None → named_by hash name users feature ≡ None
nobody_named users feature None None h = refl
nobody_named users feature None (Some name) h = cc
nobody_named users feature (Some hash) name h = by (is_possible feature) h
  where
    by : (b : Bool) → cond b (Some (by_hash hash)) None ≡ None
        → cond b (user_with_hash users hash) None ≡ None
    by true e = cc
    by false e = refl

pub none_verified : (users : Registered) (r : Reading) (user : Option RegisteredUser)
    (chosen : Option IntegrityAlgorithm) → user ≡ None
    → is_none
    (option_and_then (λ a. option_and_then (verified_for users r a) user) chosen) ≡ true
none_verified users r None None h = refl
none_verified users r None (Some a) h = refl
none_verified users r (Some user) chosen h = cc

-- a verdict that is refused for one reason leaves the reason that was first
pub refused_first : (one other : VerdictRefusal)
    → or_before (Err one) (Err other) ≡ Err one
refused_first Unauthorized other = refl
refused_first BadRequest other = refl
refused_first StaleNonce other = refl

-- ---- lists of nonces

part_false : (x q rest : Bool) → (x && (q || rest)) ≡ false
    → ((x && q) ≡ false) × ((x && rest) ≡ false)
part_false false q rest h = (refl, refl)
part_false true true rest h = cc
part_false true false rest h = (refl, h)

of_cond : {X : Type 0} (b : Bool) (o : Option X) → cond b o None ≡ None
    → (b ≡ false) ⊎ (o ≡ None)
of_cond true o h = inr h
of_cond false o h = inl refl

pub one_of_both : (r : Reading) (xs ys : List (List ℕ))
    → has_one_of r (xs ++ ys) ≡ (has_one_of r xs || has_one_of r ys)
one_of_both r [] ys = refl
one_of_both r (x ∷ xs) ys =
    ap (λ b. bytes_eq (their_nonce r) x || b) (one_of_both r xs ys)
    ∙ assoc (bytes_eq (their_nonce r) x) (has_one_of r xs) (has_one_of r ys)
  where
    assoc : (a b c : Bool) → (a || (b || c)) ≡ ((a || b) || c)
    assoc true b c = refl
    assoc false b c = refl

module _ (s : Settings) (r : Reading) (users : Registered) where
  pub refused_alike : (nonce : List ℕ)
      → ((is_ready s r && bytes_eq (their_nonce r) nonce) ≡ false)
      ⊎ (named_in r.userhash r.username s.feature ≡ None)
      → verdict_offering users s.feature nonce s.algorithms r ≡ Err (refusal_under s r nonce)
  refused_alike nonce (inl h) =
      let a = is_none r.integrity in
      let b = is_none r.realm || is_none r.nonce in
      let c = is_none r.userhash && is_none r.username in
      let d = is_none (agreement_offering s.algorithms r) in
      let f =
      is_none
      (verified_named users s.feature r (agreement_offering s.algorithms r)) in
      offering_rows users s.feature nonce s.algorithms r
      ∙ refused_rows a b c d (not (bytes_eq (their_nonce r) nonce)) f
      (nonce_refusal nonce (their_nonce r))
      (client_of users s.feature nonce (Some s.algorithms) r)
      (other_nonce a b c d (bytes_eq (their_nonce r) nonce) f
      (ap (λ x. x && bytes_eq (their_nonce r) nonce)
      (sym (ready_rows r.integrity r.realm r.nonce r.userhash r.username
      (agreement_offering s.algorithms r))) ∙ h))
  refused_alike nonce (inr h) =
      let a = is_none r.integrity in
      let b = is_none r.realm || is_none r.nonce in
      let c = is_none r.userhash && is_none r.username in
      let d = is_none (agreement_offering s.algorithms r) in
      offering_rows users s.feature nonce s.algorithms r
      ∙ refused_rows a b c d (not (bytes_eq (their_nonce r) nonce)) _
      (nonce_refusal nonce (their_nonce r))
      (client_of users s.feature nonce (Some s.algorithms) r)
      (unproven a b c d (not (bytes_eq (their_nonce r) nonce)) _
      (none_verified users r (named_user users s.feature r)
      (agreement_offering s.algorithms r)
      (nobody_named users s.feature r.userhash r.username h)))

  -- the verdict under each of these nonces is the same for all users
  abbrev pub AllRefused : List (List ℕ) → Type 0
  AllRefused [] = Unit {0}
  AllRefused (nonce ∷ nonces) =
      (verdict_offering users s.feature nonce s.algorithms r ≡ Err (refusal_under s r nonce))
      × AllRefused nonces

  all_refused : (nonces : List (List ℕ))
      → ((is_ready s r && has_one_of r nonces) ≡ false)
      ⊎ (named_in r.userhash r.username s.feature ≡ None) → AllRefused nonces
  all_refused [] h = tt
  all_refused (nonce ∷ nonces) (inl h) =
      let parts =
      part_false (is_ready s r) (bytes_eq (their_nonce r) nonce) (has_one_of r nonces) h in
      (refused_alike nonce (inl parts.0), all_refused nonces (inl parts.1))
  all_refused (nonce ∷ nonces) (inr h) =
      (refused_alike nonce (inr h), all_refused nonces (inr h))

  pub both_refused : (xs ys : List (List ℕ)) → AllRefused (xs ++ ys) → AllRefused xs × AllRefused ys
  both_refused [] ys h = (tt, h)
  both_refused (x ∷ xs) ys h =
      let rest = both_refused xs ys h.1 in ((h.0, rest.0), rest.1)

  under_refused : (secret : List ℕ) (from : SocketAddr) (e : ℕ)
      → AllRefused (nonces_of s secret from e)
      → judged_under s (record { users = users; feature = s.feature; offered = s.algorithms })
      secret from e r
      ≡ Err (refusal_under s r (nonce_in s secret from e))
  under_refused secret from zero h = h.0
  under_refused secret from (suc e) h =
      ap (λ v. or_before v (verdict_offering users s.feature (nonce_in s secret from e)
      s.algorithms r)) h.0
      ∙ ap (or_before (Err (refusal_under s r (nonce_in s secret from (suc e))))) h.1.0
      ∙ refused_first (refusal_under s r (nonce_in s secret from (suc e)))
      (refusal_under s r (nonce_in s secret from e))

  pub both_secrets : (previous : Option (List ℕ)) (from : SocketAddr) (e : ℕ)
      → AllRefused (nonces_of s s.secret from e) → AllRefused (previous_nonces s previous from e)
      → or_previous s (record { users = users; feature = s.feature; offered = s.algorithms })
      previous from e r
      (judged_under s (record { users = users; feature = s.feature; offered = s.algorithms })
      s.secret from e r)
      ≡ Err (refusal_under s r (nonce_in s s.secret from e))
  both_secrets None from e now before = under_refused s.secret from e now
  both_secrets (Some secret) from e now before =
      ap (λ v. or_before v (judged_under s
      (record { users = users; feature = s.feature; offered = s.algorithms }) secret from e r))
      (under_refused s.secret from e now)
      ∙ ap (or_before (Err (refusal_under s r (nonce_in s s.secret from e))))
      (under_refused secret from e before)
      ∙ refused_first (refusal_under s r (nonce_in s s.secret from e))
      (refusal_under s r (nonce_in s secret from e))

  all_of_unnamed : (from : SocketAddr) (e : ℕ) → waits_for s from e r ≡ None
      → AllRefused (accepted_nonces s from e)
  all_of_unnamed from e h =
      all_refused (accepted_nonces s from e)
      (of_cond (is_ready s r && has_one_of r (accepted_nonces s from e))
      (named_in r.userhash r.username s.feature) h)

  -- who waits for nobody is refused, for the reason of the current nonce
  pub unnamed_is_refused : (from : SocketAddr) (e : ℕ) → waits_for s from e r ≡ None
      → judged_in s (record { users = users; feature = s.feature; offered = s.algorithms })
      from e r
      ≡ Err (refusal_under s r (nonce_in s s.secret from e))
  unnamed_is_refused from e h =
      let both =
      both_refused (nonces_of s s.secret from e) (previous_nonces s s.previous from e)
      (all_of_unnamed from e h) in
      both_secrets s.previous from e both.0 both.1

  first_refused : (secret : List ℕ) (from : SocketAddr) (e : ℕ)
      → AllRefused (nonces_of s secret from e)
      → verdict_offering users s.feature (nonce_in s secret from e) s.algorithms r
      ≡ Err (refusal_under s r (nonce_in s secret from e))
  first_refused secret from zero h = h.0
  first_refused secret from (suc e) h = h.0

  pub unnamed_by_current : (from : SocketAddr) (e : ℕ) → waits_for s from e r ≡ None
      → verdict_offering users s.feature (nonce_in s s.secret from e) s.algorithms r
      ≡ Err (refusal_under s r (nonce_in s s.secret from e))
  unnamed_by_current from e h =
      let both =
      both_refused (nonces_of s s.secret from e) (previous_nonces s s.previous from e)
      (all_of_unnamed from e h) in
      first_refused s.secret from e both.0
