-- The cause of a request whose nonce has other security bits than the server's.
use Rattle.std.proofs.Common.{◌≡◌, ℕ, List, Option, Some, None, Bool, true, false, refl, ◌∙◌, ap}
use Rattle.std.specs.Prelude.{cond, not}
use Rattle.std.specs.Option.{is_none}
use Rattle.std.specs.Str.{bytes_eq}
use Rattle.std.specs.declared.net.socket_addr.SocketAddr.{SocketAddr}
use Rattle.stun_judging.specs.Nonces.{security_bits}
use Rattle.stun_judging.specs.Reading.{Reading, is_complete}
use Rattle.stun_judging.specs.Verdict.{bits_differ, their_nonce}
use Rattle.stun_endpoint.specs.Causes.{credential_cause, has_other_bits, is_agreed, is_current}
use Rattle.stun_endpoint.specs.Causes.{is_signed_by_user, is_valid_still}
use Rattle.stun_endpoint.specs.Judged.{Realm}
use Rattle.stun_endpoint.specs.Nonces.{current_nonce, epoch_of, security_bytes}
use Rattle.stun_endpoint.specs.Settings.{Settings}
use Rattle.stun_endpoint.specs.declared.server.causes.Cause.{Cause}
use Rattle.stun_endpoint.specs.declared.server.causes.Cause.TheVariants.{NoSignature, Incomplete}
use Rattle.stun_endpoint.specs.declared.server.causes.Cause.TheVariants.{OtherAlgorithms}
use Rattle.stun_endpoint.specs.declared.server.causes.Cause.TheVariants.{OtherFeatures, StaleNonce}
use Rattle.stun_endpoint.specs.declared.server.causes.Cause.TheVariants.{WrongCredentials}
use Rattle.stun_endpoint.proofs.NonceLemmas.{bits}

-- the checks, each with its cause
abbrev checks : Bool → Bool → Bool → Bool → Bool → Bool → Bool → Option Cause
checks unsigned complete agreed current other valid by_user =
    cond unsigned (Some NoSignature)
    (cond (not complete) (Some Incomplete)
    (cond (not agreed) (Some (cond current OtherAlgorithms StaleNonce))
    (cond other (Some OtherFeatures)
    (cond (not valid) (Some StaleNonce) (cond (not by_user) (Some WrongCredentials) None)))))

reached : (a b g q x v u : Bool) → a ≡ false → b ≡ true → g ≡ true → x ≡ true
    → checks a b g q x v u ≡ Some OtherFeatures
reached true b g q x v u unsigned complete agreed other = cc
reached false false g q x v u unsigned complete agreed other = cc
reached false true false q x v u unsigned complete agreed other = cc
reached false true true q true v u unsigned complete agreed other = refl
reached false true true q false v u unsigned complete agreed other = cc

module _ (s : Settings) where
  -- the current nonce has the bits of the settings
  ours : (from : SocketAddr) (now : ℕ)
      → security_bits (current_nonce s from now) ≡ Some (security_bytes s.algorithms s.feature)
  ours from now = bits s s.secret from (epoch_of s now)

  pub without_bits : (from : SocketAddr) (now : ℕ) (r : Reading)
      → security_bits (their_nonce r) ≡ None
      → has_other_bits (current_nonce s from now) r ≡ false
  without_bits from now r none =
      ap (λ b. bits_differ b (security_bits (their_nonce r))) (ours from now)
      ∙ ap (bits_differ (Some (security_bytes s.algorithms s.feature))) none

  pub other_bits_cause : (realm : Realm) (from : SocketAddr) (now : ℕ) (r : Reading)
      (theirs : List ℕ) → is_none r.integrity ≡ false → is_complete r ≡ true
      → is_agreed realm r ≡ true → security_bits (their_nonce r) ≡ Some theirs
      → bytes_eq (security_bytes s.algorithms s.feature) theirs ≡ false
      → credential_cause s realm from now r ≡ Some OtherFeatures
  other_bits_cause realm from now r theirs unsigned complete agreed are apart =
      let other : has_other_bits (current_nonce s from now) r ≡ true =
      ap (λ b. bits_differ b (security_bits (their_nonce r))) (ours from now)
      ∙ ap (bits_differ (Some (security_bytes s.algorithms s.feature))) are ∙ ap not apart in
      reached (is_none r.integrity) (is_complete r) (is_agreed realm r) (is_current s from now r)
      (has_other_bits (current_nonce s from now) r) (is_valid_still s realm from now r)
      (is_signed_by_user realm r) unsigned complete agreed other
