-- The bytes of a request are not bid down.
use Rattle.std.proofs.Common.{◌≡◌, ℕ, true, false, List, Option, Some, None, refl, sym, ◌∙◌, ap}
use Rattle.std.specs.Option.{IfSome, IsSome, is_some, option_and_then}
use Rattle.stun_base.specs.declared.keys.algorithm.IntegrityAlgorithm.{IntegrityAlgorithm}
use Rattle.stun_base.specs.declared.wire.message_type.MessageClass.{MessageClass}
use Rattle.stun_base.specs.declared.wire.message_type.MessageClass.TheVariants.{Request}
use Rattle.stun_judging.specs.Reading.{Reading, reading_of, verified_under}
use Rattle.stun_judging.specs.Signed.{ReadsAs}
use Rattle.stun_client.specs.Challenge.{Challenge, added_under}
use Rattle.stun_client.specs.Challenges.{Answered}
use Rattle.stun_client.specs.Downgrade.{IsNowhereBidDown}
use Rattle.stun_client.specs.Rule.{IsChosen}
use Rattle.stun_client.specs.declared.preferences.Preferences.{Preferences}
use Rattle.stun_client_endpoint.specs.Written.{Form}
use Rattle.stun_requests.specs.ReadBack.{IsReadAsMade, added_to}

false_true : false ≡ true → ⊥
false_true is = cc

-- nobody accepts what is not signed
no_digest : (r : Reading) (key : List ℕ) → r.integrity ≡ None → IsSome (verified_under r key) → ⊥
no_digest r key none digest =
    false_true (sym (ap (λ (o : Option (List ℕ → Option IntegrityAlgorithm)).
    is_some (option_and_then (λ (verify : List ℕ → Option IntegrityAlgorithm). verify key) o)) none)
    ∙ digest)

unsigned : (p : Preferences) (r : Reading) → r.integrity ≡ None → IsNowhereBidDown p r
unsigned p r none = λ users feature nonce offered current. record {
  strongest = λ client accepted. absurd (no_digest r accepted.key none accepted.digest);
  digest = λ client accepted key a verified.
      absurd (no_digest r accepted.key none accepted.digest);
  hashed = λ client accepted wanted given.
      absurd (no_digest r accepted.key none accepted.digest);
}

pub nothing_there : {A : Type 0} (o : Option A) → is_some o ≡ false → o ≡ None
nothing_there None none = refl
nothing_there (Some x) none = cc

pub not_bid_down : ((p : Preferences) (c : Challenge) (class : MessageClass) (error : Option ℕ)
    (bytes : List ℕ) → IsChosen p c → ReadsAs class error (added_under true c) (reading_of bytes)
    → IsNowhereBidDown p (reading_of bytes))
    → (p : Preferences) (challenge : Option Answered) (form : Form) (method : ℕ) (bytes : List ℕ)
    → IfSome challenge (λ c. IsChosen p c.challenge)
    → IsReadAsMade form method (added_to challenge) bytes → IsNowhereBidDown p (reading_of bytes)
not_bid_down law p None form method bytes chosen back =
    unsigned p (reading_of bytes)
    (nothing_there (reading_of bytes).integrity back.reads.integrity_is)
not_bid_down law p (Some c) form method bytes chosen back =
    law p c.challenge Request None bytes chosen back.reads
