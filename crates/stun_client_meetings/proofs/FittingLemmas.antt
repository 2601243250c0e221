-- The messages that a client writes for a challenge of a server fit, and have an ID of 96 bits.
use Rattle.std.proofs.Common.{◌≡◌, ◌∙◌, ◌≤◌, ℕ, Bool, true, false, List, length, Option, Some, None}
use Rattle.std.proofs.Common.{Ok, Err, ap, arith, cond, refl}
use Rattle.std.specs.Option.{IfSome}
use Rattle.std.specs.Prelude.{◌&&◌, take}
use Rattle.std.proofs.lemmas.List.{length-take}
use Rattle.stun_base.specs.Credentials.{NameAndPassword}
use Rattle.stun_base.specs.declared.keys.algorithm.IntegrityAlgorithm.{IntegrityAlgorithm}
use Rattle.stun_base.specs.declared.wire.error.StunWriteError.TheVariants.{TooLarge}
use Rattle.stun_types.specs.Limits.{TEXT_LIMIT, USERNAME_LIMIT}
use Rattle.stun_judging.specs.Naming.{naming_of}
use Rattle.stun_judging.specs.Feature.{is_possible}
use Rattle.stun_judging.specs.Nonces.{asks_for_userhash}
use Rattle.stun_judging.specs.Signed.{plain_name}
use Rattle.stun_judging.specs.declared.algorithm_set.AlgorithmSet.{AlgorithmSet}
use Rattle.stun_judging.specs.declared.algorithm_set.AlgorithmSet.TheVariants.{OnlySha1}
use Rattle.stun_judging.specs.declared.algorithm_set.AlgorithmSet.TheVariants.{OnlySha256, Both}
use Rattle.stun_extra.specs.Fingerprint.{fingerprint_in}
use Rattle.stun_client.specs.Challenges.{Answered}
use Rattle.stun_client.specs.Judging.{Identity}
use Rattle.stun_client.specs.declared.preferences.Preferences.{Preferences}
use Rattle.stun_client_endpoint.specs.Bodies.{Body}
use Rattle.stun_client_endpoint.specs.Written.{Form, is_text_too_long, request_bytes, whole_request}
use Rattle.stun_endpoint.specs.Answers.{is_fingerprinted, is_right}
use Rattle.stun_endpoint.specs.Settings.{Settings}
use Rattle.stun_exchanges.specs.Agreement.{offered_by}
use Rattle.stun_exchanges.specs.Exchange.{IsServer, meant_for}
use Rattle.stun_requests.specs.Fitting.{IsShort}
use Rattle.stun_requests.specs.ReadBack.{print_of}
use Rattle.stun_requests.proofs.ServedLemmas.{hash_long}

-- ---- the challenge of a server

name_short : (hashes : Bool) (name realm : List ℕ) → length name ≤ USERNAME_LIMIT
    → IfSome (plain_name (naming_of hashes name realm)) (λ text. length text ≤ USERNAME_LIMIT)
name_short true name realm short = tt
name_short false name realm short = short

list_short : (set : AlgorithmSet) → length (offered_by set) ≤ 2600
list_short OnlySha1 = omega arith
list_short OnlySha256 = omega arith
list_short Both = omega arith

pub sixteen : (list : List ℕ) → length (take 16 list) ≤ 16
sixteen list = omega (arith, length-take 16 list)

pub short_challenge : (s : Settings) (p : Preferences) (who : NameAndPassword) (nonce : List ℕ)
    (a : IntegrityAlgorithm) → IsServer s → length who.username ≤ USERNAME_LIMIT
    → length nonce ≤ TEXT_LIMIT → IsShort (meant_for s p who nonce a).challenge
short_challenge s p who nonce a fine name short =
    let hashes = asks_for_userhash nonce && is_possible p.anonymous_username in
    record {
      nonce = short;
      realm = fine.realm_fits;
      username = name_short hashes who.username s.realm name;
      userhash = hash_long hashes who.username s.realm;
      offered = list_short s.algorithms;
    }

-- ---- SOFTWARE

software_short : (o : Option (List ℕ)) → is_text_too_long o ≡ false
    → IfSome o (λ text. length text ≤ TEXT_LIMIT)
software_short None is = tt
software_short (Some text) is = grind (arith, is)

-- what is written has a SOFTWARE that fits
pub software_fits : (form : Form) (identity : Identity) (challenge : Option Answered)
    (method id : ℕ) (body : Body) (bytes : List ℕ)
    → request_bytes form identity challenge method id body ≡ Ok bytes
    → IfSome form.software (λ text. length text ≤ TEXT_LIMIT)
unfolding request_bytes
software_fits form identity challenge method id body bytes is =
    software_short form.software (by (is_text_too_long form.software) is)
  where
    by : (b : Bool) → cond b (Err TooLarge) (whole_request form identity challenge method id body)
        ≡ Ok bytes
        → b ≡ false
    by true is = cc
    by false is = refl

-- ---- FINGERPRINT

pub is_printed : (has : Bool) (bytes : List ℕ) → fingerprint_in bytes ≡ print_of has → has ≡ true
    → is_fingerprinted bytes ≡ true
is_printed has bytes is required = ap is_right (is ∙ ap print_of required)
