-- A request is accepted under the nonce that it has, if the server accepts this nonce for its source,
-- and under no other nonce.
use Rattle.std.proofs.Common.{◌≡◌, ◌⊎◌, inl, inr, ℕ, zero, suc, List, [], ◌∷◌}
use Rattle.std.proofs.Common.{Option, Some, None, Bool, true, false, refl, sym, subst, ◌∙◌, ap, Ok}
use Rattle.std.specs.Prelude.{◌||◌, unwrap_or}
use Rattle.std.specs.Str.{bytes_eq}
use Rattle.std.proofs.lemmas.Slice.Eq.{bytes_eq-Decides}
use Rattle.std.specs.declared.net.socket_addr.SocketAddr.{SocketAddr}
use Rattle.stun_judging.specs.Reading.{Reading}
use Rattle.stun_judging.specs.Verdict.{ClientSeen, their_nonce}
use Rattle.stun_endpoint.specs.Judged.{IsAcceptedBy, IsAcceptedByPrevious, IsAcceptedUnder, Realm}
use Rattle.stun_endpoint.specs.Judged.{judged_in}
use Rattle.stun_endpoint.specs.Lookups.{accepted_nonces, has_one_of, nonces_of, previous_nonces}
use Rattle.stun_endpoint.specs.Nonces.{nonce_in}
use Rattle.stun_endpoint.specs.Settings.{Settings}
use Rattle.stun_endpoint.proofs.AcceptedLemmas.{accepted_at}
use Rattle.stun_endpoint.proofs.UnnamedLemmas.{one_of_both}

pub either : (x y : Bool) → (x || y) ≡ true → (x ≡ true) ⊎ (y ≡ true)
either true y h = inl refl
either false y h = inr h

pub or_right : (x y : Bool) → y ≡ true → (x || y) ≡ true
or_right true y h = refl
or_right false y h = h

alone : (x : Bool) → (x || false) ≡ true → x ≡ true
alone true h = refl
alone false h = cc

-- ---- the accepted nonces are those of the two secrets

pub accepted_parts : (s : Settings) (r : Reading) (from : SocketAddr) (e : ℕ)
    → has_one_of r (accepted_nonces s from e)
    ≡ (has_one_of r (nonces_of s s.secret from e)
    || has_one_of r (previous_nonces s s.previous from e))
accepted_parts s r from e =
    one_of_both r (nonces_of s s.secret from e) (previous_nonces s s.previous from e)

module _ (s : Settings) (realm : Realm) (from : SocketAddr) (r : Reading) (client : ClientSeen)
  where
    -- ---- an accepted request has the nonce under which it is accepted

    pub has_it : (nonce : List ℕ) → IsAcceptedBy realm nonce r client → their_nonce r ≡ nonce
    has_it nonce is = ap (λ o. unwrap_or o []) is.accepted.nonce

    is_it : (nonce : List ℕ) → IsAcceptedBy realm nonce r client
        → bytes_eq (their_nonce r) nonce ≡ true
    is_it nonce is = (bytes_eq-Decides (their_nonce r) nonce).1 (has_it nonce is)

    -- this nonce is one of those of its secret
    one_of_secret : (secret : List ℕ) (e : ℕ) → IsAcceptedUnder s realm secret from e r client
        → (has_one_of r (nonces_of s secret from e) ≡ true)
        × ((f : ℕ) × IsAcceptedBy realm (nonce_in s secret from f) r client)
    one_of_secret secret zero is =
        (ap (λ b. b || false) (is_it (nonce_in s secret from 0) is), (0, is))
    one_of_secret secret (suc e) (inl is) = (
      ap (λ b. b || has_one_of r (nonce_in s secret from e ∷ []))
          (is_it (nonce_in s secret from (suc e)) is),
      (suc e, is),
    )
    one_of_secret secret (suc e) (inr is) = (
      or_right (bytes_eq (their_nonce r) (nonce_in s secret from (suc e)))
          (has_one_of r (nonce_in s secret from e ∷ []))
          (ap (λ b. b || false) (is_it (nonce_in s secret from e) is)),
      (e, is),
    )

    one_of_previous : (previous : Option (List ℕ)) (e : ℕ)
        → IsAcceptedByPrevious s realm previous from e r client
        → (has_one_of r (previous_nonces s previous from e) ≡ true)
        × ((secret : List ℕ) × (f : ℕ) × IsAcceptedBy realm (nonce_in s secret from f) r client)
    one_of_previous None e is = absurd is
    one_of_previous (Some secret) e is =
        let one = one_of_secret secret e is in (one.0, (secret, one.1.0, one.1.1))

    -- and so one of those that are accepted
    pub accepted_has : (e : ℕ) → judged_in s realm from e r ≡ Ok client
        → (has_one_of r (accepted_nonces s from e) ≡ true)
        × ((secret : List ℕ) × (f : ℕ) × IsAcceptedBy realm (nonce_in s secret from f) r client)
    accepted_has e is = by ((accepted_at s realm from r client e).0 is)
      where
        by : IsAcceptedUnder s realm s.secret from e r client
            ⊎ IsAcceptedByPrevious s realm s.previous from e r client
            → (has_one_of r (accepted_nonces s from e) ≡ true)
            × ((secret : List ℕ) × (f : ℕ) × IsAcceptedBy realm (nonce_in s secret from f) r client)
        by (inl k) =
            let one = one_of_secret s.secret e k in (
              accepted_parts s r from e
                  ∙ ap (λ b. b || has_one_of r (previous_nonces s s.previous from e)) one.0,
              (s.secret, one.1.0, one.1.1),
            )
        by (inr k) =
            let one = one_of_previous s.previous e k in (
              accepted_parts s r from e
                  ∙ or_right (has_one_of r (nonces_of s s.secret from e))
                  (has_one_of r (previous_nonces s s.previous from e)) one.0,
              one.1,
            )

    -- ---- what is accepted under the nonce that it has is accepted, if the server accepts the nonce

    module _ (theirs : IsAcceptedBy realm (their_nonce r) r client) where
      under_this : (nonce : List ℕ) → bytes_eq (their_nonce r) nonce ≡ true
          → IsAcceptedBy realm nonce r client
      under_this nonce h =
          subst (λ (n : List ℕ). IsAcceptedBy realm n r client)
          ((bytes_eq-Decides (their_nonce r) nonce).0 h) theirs

      under_secret : (secret : List ℕ) (e : ℕ) → has_one_of r (nonces_of s secret from e) ≡ true
          → IsAcceptedUnder s realm secret from e r client
      under_secret secret zero h =
          under_this (nonce_in s secret from 0)
          (alone (bytes_eq (their_nonce r) (nonce_in s secret from 0)) h)
      under_secret secret (suc e) h =
          by (either (bytes_eq (their_nonce r) (nonce_in s secret from (suc e))) _ h)
        where
          by : (bytes_eq (their_nonce r) (nonce_in s secret from (suc e)) ≡ true)
              ⊎ ((bytes_eq (their_nonce r) (nonce_in s secret from e) || false) ≡ true)
              → IsAcceptedUnder s realm secret from (suc e) r client
          by (inl k) = inl (under_this (nonce_in s secret from (suc e)) k)
          by (inr k) =
              inr (under_this (nonce_in s secret from e)
              (alone (bytes_eq (their_nonce r) (nonce_in s secret from e)) k))

      under_previous : (previous : Option (List ℕ)) (e : ℕ)
          → has_one_of r (previous_nonces s previous from e) ≡ true
          → IsAcceptedByPrevious s realm previous from e r client
      under_previous None e h = cc
      under_previous (Some secret) e h = under_secret secret e h

      pub under_accepted : (e : ℕ) → has_one_of r (accepted_nonces s from e) ≡ true
          → judged_in s realm from e r ≡ Ok client
      under_accepted e h =
          (accepted_at s realm from r client e).1
          (by (either (has_one_of r (nonces_of s s.secret from e))
          (has_one_of r (previous_nonces s s.previous from e))
          (sym (accepted_parts s r from e) ∙ h)))
        where
          by : (has_one_of r (nonces_of s s.secret from e) ≡ true)
              ⊎ (has_one_of r (previous_nonces s s.previous from e) ≡ true)
              → IsAcceptedUnder s realm s.secret from e r client
              ⊎ IsAcceptedByPrevious s realm s.previous from e r client
          by (inl k) = inl (under_secret s.secret e k)
          by (inr k) = inr (under_previous s.previous e k)
