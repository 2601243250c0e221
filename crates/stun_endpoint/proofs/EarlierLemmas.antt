-- A request whose nonce is stale is judged under the earlier nonce that it has, or refused.
use Rattle.std.proofs.Common.{◌≡◌, ◌⊎◌, inl, inr, ◌-◌, ◌<◌, ℕ, zero, suc, List, [], ◌∷◌, ◌++◌}
use Rattle.std.proofs.Common.{Option, Some, None, Bool, true, false, refl, sym, ◌∙◌, ap, arith}
use Rattle.std.proofs.Common.{Ok, Err}
use Rattle.std.specs.Prelude.{cond, ◌||◌}
use Rattle.std.specs.Option.{is_some}
use Rattle.std.specs.Str.{bytes_eq}
use Rattle.std.proofs.lemmas.Slice.Eq.{bytes_eq-Decides}
use Rattle.std.specs.declared.net.socket_addr.SocketAddr.{SocketAddr}
use Rattle.std.specs.declared.result.Result.{Result}
use Rattle.stun_judging.specs.Verdict.{or_before, ClientSeen, their_nonce}
use Rattle.stun_judging.specs.Reading.{Reading}
use Rattle.stun_judging.specs.declared.refusal.VerdictRefusal.{VerdictRefusal}
use Rattle.stun_judging.specs.declared.refusal.VerdictRefusal.TheVariants.{Unauthorized, BadRequest}
use Rattle.stun_judging.specs.declared.refusal.VerdictRefusal.TheVariants.{StaleNonce}
use Rattle.stun_judging.proofs.Accepting.{offering_from_verdict, verdict_from_offering}
use Rattle.stun_endpoint.specs.Judged.{IsAcceptedBy, Realm, judged_in, judged_under, or_previous}
use Rattle.stun_endpoint.specs.Judged.{verdict_under}
use Rattle.stun_endpoint.specs.Lookups.{accepted_nonces, has_one_of, nonces_of, previous_nonces}
use Rattle.stun_endpoint.specs.Nonces.{nonce_in}
use Rattle.stun_endpoint.specs.Settings.{Settings}
use Rattle.stun_endpoint.specs.code.Earlier.{earlier_nonces, nonces_before, their_nonce_among}
use Rattle.stun_endpoint.proofs.TheirNonceLemmas.{accepted_has, either, has_it, or_right}
use Rattle.stun_endpoint.proofs.TheirNonceLemmas.{under_accepted}
use Rattle.stun_endpoint.proofs.UnnamedLemmas.{one_of_both}

-- ---- the nonce that a request has

-- an optional text by whether one of two lists has it
some_or : (b c : Bool) (theirs n : List ℕ) → cond b (Some theirs) None ≡ Some n
    → cond (b || c) (Some theirs) None ≡ Some n
some_or true c theirs n h = h
some_or false c theirs n h = cc

none_or : (b c : Bool) (theirs : List ℕ) → cond b (Some theirs) None ≡ None
    → cond (b || c) (Some theirs) None ≡ cond c (Some theirs) None
none_or true c theirs h = cc
none_or false c theirs h = refl

some_parts : (b : Bool) (theirs n : List ℕ) → cond b (Some theirs) None ≡ Some n
    → (b ≡ true) × (theirs ≡ n)
some_parts true theirs n h = (refl, cc)
some_parts false theirs n h = cc

none_part : (b : Bool) (theirs : List ℕ) → cond b (Some theirs) None ≡ None → b ≡ false
none_part true theirs h = cc
none_part false theirs h = refl

some_if : (b : Bool) (theirs : List ℕ) → b ≡ is_some (cond b (Some theirs) None)
some_if true theirs = refl
some_if false theirs = refl

either_one : (b c : Bool) → b ≡ false → (b || c) ≡ c
either_one b c h = ap (λ x. x || c) h

module _ (s : Settings) (r : Reading) (secret : List ℕ) (from : SocketAddr) where
  -- of the epoch before
  pub none_before : (e : ℕ) → e ≡ 0 → their_nonce_among r (nonces_before s secret from e) ≡ None
  none_before zero first = refl
  none_before (suc e) first = absurd (omega (arith, first))

  pub before_has : (e : ℕ) → 0 < e
      → bytes_eq (their_nonce r) (nonce_in s secret from (e - 1)) ≡ true
      → their_nonce_among r (nonces_before s secret from e) ≡ Some (nonce_in s secret from (e - 1))
  before_has zero later h = absurd (omega (arith, later))
  before_has (suc e) later h =
      let before : e ≡ suc e - 1 = omega arith in
      ap (λ n. their_nonce_among r (nonce_in s secret from n ∷ [])) before
      ∙ ap (λ b. cond (b || false) (Some (their_nonce r)) None) h
      ∙ ap Some ((bytes_eq-Decides (their_nonce r) (nonce_in s secret from (suc e - 1))).0 h)

  pub before_other : (e : ℕ) → 0 < e
      → bytes_eq (their_nonce r) (nonce_in s secret from (e - 1)) ≡ false
      → their_nonce_among r (nonces_before s secret from e) ≡ None
  before_other zero later h = absurd (omega (arith, later))
  before_other (suc e) later h =
      let before : e ≡ suc e - 1 = omega arith in
      ap (λ n. their_nonce_among r (nonce_in s secret from n ∷ [])) before
      ∙ ap (λ b. cond (b || false) (Some (their_nonce r)) None) h

  -- of both epochs
  pub under_has : (e : ℕ) → bytes_eq (their_nonce r) (nonce_in s secret from e) ≡ true
      → their_nonce_among r (nonces_of s secret from e) ≡ Some (nonce_in s secret from e)
  under_has zero h =
      ap (λ b. cond (b || false) (Some (their_nonce r)) None) h
      ∙ ap Some ((bytes_eq-Decides (their_nonce r) (nonce_in s secret from 0)).0 h)
  under_has (suc e) h =
      ap (λ b. cond (b || has_one_of r (nonce_in s secret from e ∷ []))
      (Some (their_nonce r)) None) h
      ∙ ap Some ((bytes_eq-Decides (their_nonce r) (nonce_in s secret from (suc e))).0 h)

  pub under_other : (e : ℕ) → bytes_eq (their_nonce r) (nonce_in s secret from e) ≡ false
      → their_nonce_among r (nonces_of s secret from e)
      ≡ their_nonce_among r (nonces_before s secret from e)
  under_other zero h = ap (λ b. cond (b || false) (Some (their_nonce r)) None) h
  under_other (suc e) h =
      ap (λ b. cond (b || has_one_of r (nonce_in s secret from e ∷ []))
      (Some (their_nonce r)) None) h

module _ (s : Settings) (r : Reading) (from : SocketAddr) (e : ℕ) where
  -- of both secrets
  pub earlier_has : (n : List ℕ)
      → their_nonce_among r (nonces_before s s.secret from e) ≡ Some n
      → their_nonce_among r (earlier_nonces s from e) ≡ Some n
  earlier_has n h =
      ap (λ b. cond b (Some (their_nonce r)) None)
      (one_of_both r (nonces_before s s.secret from e) (previous_nonces s s.previous from e))
      ∙ some_or (has_one_of r (nonces_before s s.secret from e))
      (has_one_of r (previous_nonces s s.previous from e)) (their_nonce r) n h

  pub earlier_other : their_nonce_among r (nonces_before s s.secret from e) ≡ None
      → their_nonce_among r (earlier_nonces s from e)
      ≡ their_nonce_among r (previous_nonces s s.previous from e)
  earlier_other h =
      ap (λ b. cond b (Some (their_nonce r)) None)
      (one_of_both r (nonces_before s s.secret from e) (previous_nonces s s.previous from e))
      ∙ none_or (has_one_of r (nonces_before s s.secret from e))
      (has_one_of r (previous_nonces s s.previous from e)) (their_nonce r) h

-- ---- all accepted nonces: the current one, and the earlier ones

accepted_split : (s : Settings) (from : SocketAddr) (e : ℕ)
    → accepted_nonces s from e ≡ nonce_in s s.secret from e ∷ earlier_nonces s from e
accepted_split s from zero = refl
accepted_split s from (suc e) = refl

module _ (s : Settings) (r : Reading) (from : SocketAddr) (e : ℕ) where
  pub has_current : bytes_eq (their_nonce r) (nonce_in s s.secret from e) ≡ true
      → has_one_of r (accepted_nonces s from e) ≡ true
  has_current h =
      ap (has_one_of r) (accepted_split s from e)
      ∙ ap (λ b. b || has_one_of r (earlier_nonces s from e)) h

  pub has_earlier : bytes_eq (their_nonce r) (nonce_in s s.secret from e) ≡ false
      → has_one_of r (accepted_nonces s from e)
      ≡ is_some (their_nonce_among r (earlier_nonces s from e))
  has_earlier h =
      ap (has_one_of r) (accepted_split s from e)
      ∙ either_one (bytes_eq (their_nonce r) (nonce_in s s.secret from e))
      (has_one_of r (earlier_nonces s from e)) h
      ∙ some_if (has_one_of r (earlier_nonces s from e)) (their_nonce r)

-- ---- the verdict

-- an acceptance, if it does not come, leaves the nonce stale
stale_stays : (x : Result ClientSeen VerdictRefusal)
    → ((client : ClientSeen) → or_before (Err StaleNonce) x ≡ Ok client → ⊥)
    → or_before (Err StaleNonce) x ≡ Err StaleNonce
stale_stays (Ok client) never = absurd (never client refl)
stale_stays (Err refusal) never = refl

module _ (s : Settings) (realm : Realm) (from : SocketAddr) (e : ℕ) (r : Reading) where
  -- ---- where the current nonce decides

  decides : (v : Result ClientSeen VerdictRefusal)
      → ((w : Result ClientSeen VerdictRefusal) → or_before v w ≡ v)
      → verdict_under realm (nonce_in s s.secret from e) r ≡ v → judged_in s realm from e r ≡ v
  decides v stays is = by s.previous
    where
      under : (f : ℕ) → verdict_under realm (nonce_in s s.secret from f) r ≡ v
          → judged_under s realm s.secret from f r ≡ v
      under zero h = h
      under (suc f) h =
          let before = verdict_under realm (nonce_in s s.secret from f) r in
          ap (λ w. or_before w before) h ∙ stays before

      by : (previous : Option (List ℕ))
          → or_previous s realm previous from e r (judged_under s realm s.secret from e r) ≡ v
      by None = under e is
      by (Some secret) =
          let before = judged_under s realm secret from e r in
          ap (λ w. or_before w before) (under e is) ∙ stays before

  pub accepted_decides : (client : ClientSeen)
      → verdict_under realm (nonce_in s s.secret from e) r ≡ Ok client
      → judged_in s realm from e r ≡ Ok client
  accepted_decides client = decides (Ok client) (λ w. refl)

  pub unauthorized_decides : verdict_under realm (nonce_in s s.secret from e) r ≡ Err Unauthorized
      → judged_in s realm from e r ≡ Err Unauthorized
  unauthorized_decides = decides (Err Unauthorized) (λ w. refl)

  pub bad_decides : verdict_under realm (nonce_in s s.secret from e) r ≡ Err BadRequest
      → judged_in s realm from e r ≡ Err BadRequest
  bad_decides = decides (Err BadRequest) (λ w. refl)

  -- ---- where it is stale

  -- a request that is not accepted is stale
  stale_unless_accepted : verdict_under realm (nonce_in s s.secret from e) r ≡ Err StaleNonce
      → ((client : ClientSeen) → judged_in s realm from e r ≡ Ok client → ⊥)
      → judged_in s realm from e r ≡ Err StaleNonce
  stale_unless_accepted is = by s.previous
    where
      under : (f : ℕ) → verdict_under realm (nonce_in s s.secret from f) r ≡ Err StaleNonce
          → ((client : ClientSeen) → judged_under s realm s.secret from f r ≡ Ok client → ⊥)
          → judged_under s realm s.secret from f r ≡ Err StaleNonce
      under zero h never = h
      under (suc f) h never =
          let before = verdict_under realm (nonce_in s s.secret from f) r in
          let now = ap (λ v. or_before v before) h in
          now ∙ stale_stays before (λ client k. never client (now ∙ k))

      by : (previous : Option (List ℕ))
          → ((client : ClientSeen) → or_previous s realm previous from e r
          (judged_under s realm s.secret from e r) ≡ Ok client → ⊥)
          → or_previous s realm previous from e r (judged_under s realm s.secret from e r)
          ≡ Err StaleNonce
      by None never = under e is never
      by (Some secret) never =
          let before = judged_under s realm secret from e r in
          let now =
          ap (λ v. or_before v before)
          (under e is (λ client k. never client (ap (λ v. or_before v before) k))) in
          now ∙ stale_stays before (λ client k. never client (now ∙ k))

  -- an accepted request has a nonce under which the verdict accepts it
  under_theirs : (client : ClientSeen) → judged_in s realm from e r ≡ Ok client
      → verdict_under realm (their_nonce r) r ≡ Ok client
  under_theirs client is =
      let one = (accepted_has s realm from r client e is).1 in
      let nonce = nonce_in s one.0 from one.1 in
      ap (λ n. verdict_under realm n r) (has_it s realm from r client nonce one.2)
      ∙ verdict_from_offering realm.users realm.feature nonce realm.offered r client one.2

  pub earlier_accepts : (n : List ℕ) (client : ClientSeen)
      → their_nonce_among r (earlier_nonces s from e) ≡ Some n
      → verdict_under realm n r ≡ Ok client → judged_in s realm from e r ≡ Ok client
  earlier_accepts n client has is =
      let parts = some_parts (has_one_of r (earlier_nonces s from e)) (their_nonce r) n has in
      under_accepted s realm from r client
      (offering_from_verdict realm.users realm.feature (their_nonce r) realm.offered r client
      (ap (λ k. verdict_under realm k r) parts.1 ∙ is)) e
      (ap (has_one_of r) (accepted_split s from e)
      ∙ or_right (bytes_eq (their_nonce r) (nonce_in s s.secret from e))
      (has_one_of r (earlier_nonces s from e)) parts.0)

  pub earlier_refuses : (n : List ℕ) (why : VerdictRefusal)
      → verdict_under realm (nonce_in s s.secret from e) r ≡ Err StaleNonce
      → their_nonce_among r (earlier_nonces s from e) ≡ Some n
      → verdict_under realm n r ≡ Err why → judged_in s realm from e r ≡ Err StaleNonce
  earlier_refuses n why stale has is =
      let parts = some_parts (has_one_of r (earlier_nonces s from e)) (their_nonce r) n has in
      stale_unless_accepted stale (λ client accepted.
      unlike client (sym (under_theirs client accepted)
      ∙ ap (λ k. verdict_under realm k r) parts.1 ∙ is))
    where
      unlike : (client : ClientSeen) → Ok client ≡ Err why → ⊥
      unlike client h = cc

  pub no_earlier_accepts : verdict_under realm (nonce_in s s.secret from e) r ≡ Err StaleNonce
      → their_nonce_among r (earlier_nonces s from e) ≡ None
      → judged_in s realm from e r ≡ Err StaleNonce
  no_earlier_accepts stale none = stale_unless_accepted stale never
    where
      ours : List ℕ
      ours = nonce_in s s.secret from e

      unlike : (client : ClientSeen) → Ok client ≡ Err StaleNonce → ⊥
      unlike client h = cc

      other : has_one_of r (earlier_nonces s from e) ≡ false
      other = none_part (has_one_of r (earlier_nonces s from e)) (their_nonce r) none

      by : (client : ClientSeen) → judged_in s realm from e r ≡ Ok client
          → (bytes_eq (their_nonce r) ours ≡ true)
          ⊎ (has_one_of r (earlier_nonces s from e) ≡ true) → ⊥
      by client is (inl k) =
          unlike client (sym (under_theirs client is)
          ∙ ap (λ n. verdict_under realm n r) ((bytes_eq-Decides (their_nonce r) ours).0 k)
          ∙ stale)
      by client is (inr k) = differ (has_one_of r (earlier_nonces s from e)) other k
        where
          differ : (b : Bool) → b ≡ false → b ≡ true → ⊥
          differ true h w = cc
          differ false h w = cc

      never : (client : ClientSeen) → judged_in s realm from e r ≡ Ok client → ⊥
      never client is =
          by client is (either (bytes_eq (their_nonce r) ours)
          (has_one_of r (earlier_nonces s from e))
          (sym (ap (has_one_of r) (accepted_split s from e))
          ∙ (accepted_has s realm from r client e is).0))
