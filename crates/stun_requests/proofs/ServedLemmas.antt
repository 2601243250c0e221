-- What a server makes of a request that reads as what it was made of.
use Rattle.std.proofs.Common.{◌≡◌, Bool, true, false, ℕ, List, length, Some, None, refl}
use Rattle.std.proofs.Common.{◌∙◌, ap, cond}
use Rattle.std.specs.Prelude.{◌&&◌, IsUtf8}
use Rattle.std.specs.Option.{IfSome, is_some}
use Rattle.sha2.proofs.Facts256.{length-sha256}
use Rattle.stun_base.specs.Credentials.{NameAndPassword}
use Rattle.stun_base.specs.declared.keys.algorithm.IntegrityAlgorithm.{IntegrityAlgorithm}
use Rattle.stun_judging.specs.Naming.{naming_of}
use Rattle.stun_judging.specs.Feature.{is_possible}
use Rattle.stun_judging.specs.Nonces.{asks_for_userhash}
use Rattle.stun_judging.specs.Signed.{Added, IsText, hashed_name, plain_name}
use Rattle.stun_extra.specs.Fingerprint.{fingerprint_in}
use Rattle.stun_client.specs.Challenge.{added_under}
use Rattle.stun_client.specs.declared.preferences.Preferences.{Preferences}
use Rattle.stun_client_endpoint.specs.Written.{Form}
use Rattle.stun_endpoint.specs.Responding.{drop_reason, fault_of, no_message}
use Rattle.stun_endpoint.specs.Settings.{Settings}
use Rattle.stun_exchanges.specs.Exchange.{IsServer, meant_for}
use Rattle.stun_requests.specs.ReadBack.{IsReadAsMade, print_of}
use Rattle.stun_requests.specs.Served.{IsPrinted}

-- FINGERPRINT is there where it is required
no_fault : (required has : Bool) → (required ≡ true → has ≡ true)
    → fault_of required (print_of has) ≡ None
no_fault required true sends = refl
no_fault true false sends = absurd (differ (sends refl))
  where
    differ : false ≡ true → ⊥
    differ is = cc
no_fault false false sends = refl

pub undropped : (s : Settings) (form : Form) (method : ℕ) (added : Added) (bytes : List ℕ)
    → IsPrinted s form → IsReadAsMade form method added bytes
    → drop_reason s.requires_fingerprint bytes ≡ None
undropped s form method added bytes printed is =
    ap (λ o. cond (is_some o) (Some (no_message bytes))
    (fault_of s.requires_fingerprint (fingerprint_in bytes))) is.message
    ∙ ap (fault_of s.requires_fingerprint) is.print
    ∙ no_fault s.requires_fingerprint form.has_fingerprint printed

-- ---- the texts of a challenge

pub name_text : (hashes : Bool) (name realm : List ℕ) → IsUtf8 name
    → IfSome (plain_name (naming_of hashes name realm)) IsUtf8
name_text true name realm text = tt
name_text false name realm text = text

pub hash_long : (hashes : Bool) (name realm : List ℕ)
    → IfSome (hashed_name (naming_of hashes name realm)) (λ hash. length hash ≡ 32)
hash_long true name realm = length-sha256 _
hash_long false name realm = tt

pub texts_of : (s : Settings) (p : Preferences) (who : NameAndPassword) (nonce : List ℕ)
    (a : IntegrityAlgorithm) → IsServer s → IsUtf8 who.username → IsUtf8 nonce
    → IsText (added_under true (meant_for s p who nonce a).challenge)
texts_of s p who nonce a fine name text =
    let hashes = asks_for_userhash nonce && is_possible p.anonymous_username in
    record {
      nonce = text;
      realm = fine.realm_text;
      username = name_text hashes who.username s.realm name;
      userhash = hash_long hashes who.username s.realm;
    }
