-- What the code finds of a request that waits: what it claims, and which nonce it has.
use Rattle.std.proofs.Common.{◌≡◌, ◌<◌, ◌-◌, ℕ, zero, suc, List, [], ◌∷◌, ◌++◌}
use Rattle.std.proofs.Common.{map, Option, Some, None, Bool, true, false, refl, sym}
use Rattle.std.proofs.Common.{◌∙◌, ap, arith}
use Rattle.std.specs.Prelude.{cond, ◌||◌, ◌&&◌}
use Rattle.std.specs.Option.{is_some, option_map}
use Rattle.std.specs.Str.{bytes_eq}
use Rattle.std.specs.declared.net.socket_addr.SocketAddr.{SocketAddr}
use Rattle.stun_base.specs.declared.keys.algorithm.IntegrityAlgorithm.{IntegrityAlgorithm}
use Rattle.stun_judging.specs.Nonces.{front, letter, security_bits, security_byte, spelled_bits}
use Rattle.stun_judging.specs.declared.refusal.VerdictRefusal.TheVariants.{StaleNonce}
use Rattle.stun_judging.specs.Found.{ClaimSeen, claim_by, claim_of}
use Rattle.stun_judging.specs.Named.{Named, named_in}
use Rattle.stun_judging.specs.Reading.{Reading, reading_of, is_complete}
use Rattle.stun_judging.specs.Verdict.{agreement_offering, nonce_refusal}
use Rattle.stun_judging.proofs.FoundLemmas.{claim_message}
use Rattle.stun_endpoint.specs.Lookups.{accepted_nonces, has_one_of, nonces_of}
use Rattle.stun_endpoint.specs.Lookups.{previous_nonces, waits_for}
use Rattle.stun_endpoint.specs.Nonces.{nonce_in, words_of}
use Rattle.stun_endpoint.specs.Settings.{Settings}
use Rattle.stun_endpoint.specs.code.Found.{waiting_claim}
use Rattle.stun_endpoint.proofs.UnnamedLemmas.{one_of_both}

-- ---- a nonce is never empty

spelled_there : (byte : ℕ) (letters : List ℕ) → bytes_eq [] (front byte ++ letters) ≡ false
unfolding spelled_bits
spelled_there byte letters = refl

pub nonce_in-there : (s : Settings) (secret : List ℕ) (from : SocketAddr) (e : ℕ)
    → bytes_eq [] (nonce_in s secret from e) ≡ false
nonce_in-there s secret from e =
    spelled_there (security_byte s.algorithms s.feature)
    (map letter (words_of s.algorithms secret from e))

-- ---- the empty nonce is one that no request has

pub stale_for_all : (theirs : List ℕ) → nonce_refusal [] theirs ≡ StaleNonce
unfolding security_bits
stale_for_all theirs = refl

-- ---- what a request claims that waits

module _ (s : Settings) (from : SocketAddr) (e : ℕ) (bytes : List ℕ) where
  -- one that claims nothing waits for nobody
  pub no_claim_waits_not : claim_of s.algorithms s.feature bytes ≡ None
      → waiting_claim s from e bytes ≡ None
  no_claim_waits_not h =
      ap (λ o. cond one o None) h ∙ both one
    where
      one : Bool
      one = has_one_of (reading_of bytes) (accepted_nonces s from e)

      nothing : Option ClaimSeen
      nothing = None

      both : (b : Bool) → cond b nothing nothing ≡ nothing
      both true = refl
      both false = refl

  -- nor does one with another nonce
  pub unaccepted_waits_not : has_one_of (reading_of bytes) (accepted_nonces s from e) ≡ false
      → waiting_claim s from e bytes ≡ None
  unaccepted_waits_not other = ap (λ b. cond b (claim_of s.algorithms s.feature bytes) None) other

  -- all others wait for the user whom they name
  pub claim_waits : (claim : ClaimSeen)
      → claim_of s.algorithms s.feature bytes ≡ Some claim
      → has_one_of (reading_of bytes) (accepted_nonces s from e) ≡ true
      → waiting_claim s from e bytes ≡ Some claim
  claim_waits claim h one =
      ap (λ b. cond b (claim_of s.algorithms s.feature bytes) None) one ∙ h

-- the user whom a claim names
abbrev user_in : Option ClaimSeen → Option Named
user_in claim = option_map (λ (c : ClaimSeen). c.user) claim

waiting_user : (s : Settings) (from : SocketAddr) (e : ℕ) (bytes : List ℕ)
    → user_in (waiting_claim s from e bytes) ≡ waits_for s from e (reading_of bytes)
waiting_user s from e bytes =
    let r = reading_of bytes in
    by (has_one_of r (accepted_nonces s from e)) (is_some r.integrity) (is_complete r)
    (agreement_offering s.algorithms r) (named_in r.userhash r.username s.feature)
  where
    by : (one signed complete : Bool) (chosen : Option IntegrityAlgorithm) (user : Option Named)
        → user_in (cond one (cond (signed && complete) (claim_by bytes chosen user) None) None)
        ≡ cond ((signed && complete && is_some chosen) && one) user None
    by false false complete chosen user = refl
    by false true false chosen user = refl
    by false true true None user = refl
    by false true true (Some a) user = refl
    by true false complete chosen user = refl
    by true true false chosen user = refl
    by true true true None user = refl
    by true true true (Some a) None = refl
    by true true true (Some a) (Some user) = refl

pub claim_is_awaited : (s : Settings) (from : SocketAddr) (e : ℕ) (bytes : List ℕ)
    (claim : ClaimSeen) → waiting_claim s from e bytes ≡ Some claim
    → waits_for s from e (reading_of bytes) ≡ Some claim.user
claim_is_awaited s from e bytes claim h =
    sym (waiting_user s from e bytes) ∙ ap user_in h

pub nobody_is_awaited : (s : Settings) (from : SocketAddr) (e : ℕ) (bytes : List ℕ)
    → waiting_claim s from e bytes ≡ None → waits_for s from e (reading_of bytes) ≡ None
nobody_is_awaited s from e bytes h = sym (waiting_user s from e bytes) ∙ ap user_in h
