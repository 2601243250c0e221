-- A refusal answers the current message of a request, and that message is signed.
use Rattle.std.proofs.Common.{◌≡◌, ◌∙◌, ℕ, Bool, true, false, List, Option, Some, None, ap, cond}
use Rattle.std.proofs.Common.{refl, subst}
use Rattle.std.specs.Bool.{⊤}
use Rattle.std.specs.Option.{is_some}
use Rattle.std.specs.Prelude.{◌&&◌}
use Rattle.stun_base.specs.Credentials.{NameAndPassword}
use Rattle.stun_base.specs.declared.keys.algorithm.IntegrityAlgorithm.{IntegrityAlgorithm}
use Rattle.stun_types.specs.Integrity.{verified_algorithm}
use Rattle.stun_judging.specs.Algorithms.{same_algorithm}
use Rattle.stun_judging.specs.Reading.{UNAUTHORIZED, is_code}
use Rattle.stun_client.specs.Challenges.{Answered, is_alike, is_one}
use Rattle.stun_client.specs.Challenging.{code_in, is_challenge}
use Rattle.stun_client.specs.Judging.{Identity, Verdict, anew, answered_in, believed, by_key}
use Rattle.stun_client.specs.Judging.{by_own_key, by_signature, by_sole_algorithm, doubted, dropped}
use Rattle.stun_client.specs.Judging.{fault_in, is_doubt, is_refusal, judged, judged_as, judged_by}
use Rattle.stun_client.specs.Judging.{judged_challenge, judged_earlier, judged_read, long_term}
use Rattle.stun_client.specs.Judging.{refused, sent_for, short_term, unbelieved, unless_faulty}
use Rattle.stun_client.specs.Judging.{unsigned}
use Rattle.stun_client.specs.Standing.{StandingSeen, is_ignored}
use Rattle.stun_client.specs.declared.judged.Distrust.{Distrust}
use Rattle.stun_client.specs.declared.judged.Distrust.TheVariants.{NotVerified, WeakerChallenge}
use Rattle.stun_client.specs.declared.judged.Distrust.TheVariants.{UnanswerableChallenge}
use Rattle.stun_client.specs.declared.preferences.Preferences.{Preferences}

-- what holds of a verdict if it is a refusal
abbrev IfRefusal : (Option Answered → Type 0) → Verdict → Type 0
IfRefusal P (believed by) = ⊤
IfRefusal P (anew c) = ⊤
IfRefusal P (refused c) = P c
IfRefusal P doubted = ⊤
IfRefusal P (dropped why) = ⊤

-- a refusal answers the current message, which is signed. With another challenge it is a 401
abbrev pub IsOfSigned : Bool → Option Answered → List ℕ → Option Answered → Type 0
IsOfSigned is_current before bytes c =
    (is_current ≡ true)
    × ((is_some before ≡ true)
    × (is_some c ≡ true → is_code UNAUTHORIZED (code_in bytes) ≡ true))

and_left : (a b : Bool) → (a && b) ≡ true → a ≡ true
and_left true b is = refl
and_left false b is = cc

module _ (P : Option Answered → Type 0) (bytes : List ℕ) where
  unbelieved_so : (o : Option Answered) (why : Distrust) → IfRefusal P (unbelieved o why bytes)
  unbelieved_so o why = by (is_doubt o (code_in bytes))
    where
      by : (b : Bool) → IfRefusal P (cond b doubted (dropped why))
      by true = tt
      by false = tt

  key_so : (found : Option IntegrityAlgorithm) (v : Verdict) → IfRefusal P v
      → IfRefusal P (by_key found v)
  key_so None v so = so
  key_so (Some a) v so = tt

  signature_so : (accepts : Bool) (o : Option Answered) (why : Distrust)
      → IfRefusal P (by_signature accepts o why bytes)
  signature_so accepts None why = by accepts
    where
      by : (b : Bool) → IfRefusal P (cond b (believed None) (unbelieved None why bytes))
      by true = tt
      by false = unbelieved_so None why
  signature_so accepts (Some c) why =
      key_so (verified_algorithm bytes c.challenge.key) (unbelieved (Some c) why bytes)
      (unbelieved_so (Some c) why)

  sole_so : (asked : IntegrityAlgorithm) (found : Option IntegrityAlgorithm)
      → IfRefusal P (by_sole_algorithm asked found)
  sole_so asked None = tt
  sole_so asked (Some a) = by (same_algorithm asked a)
    where
      by : (b : Bool) → IfRefusal P (cond b (believed (Some a)) (dropped NotVerified))
      by true = tt
      by false = tt

  own_so : (o : Option Answered) → IfRefusal P (by_own_key o bytes)
  own_so None = tt
  own_so (Some c) = key_so (verified_algorithm bytes c.challenge.key) (dropped NotVerified) tt

  earlier_so : (identity : Identity) (o : Option Answered)
      → IfRefusal P (judged_earlier identity o bytes)
  earlier_so unsigned o = tt
  earlier_so (short_term name password algorithm) o =
      sole_so algorithm (verified_algorithm bytes password)
  earlier_so (long_term who p accepts) o = by (is_challenge bytes)
    where
      by : (b : Bool) → IfRefusal P (cond b (dropped NotVerified) (by_own_key o bytes))
      by true = tt
      by false = own_so o

module _ (standing : StandingSeen) (bytes : List ℕ) where
  challenge_so : (before : Option Answered) (x : Answered)
      → IfRefusal (IsOfSigned true before bytes) (judged_challenge standing before bytes x)
  challenge_so None x = by (is_ignored standing x)
    where
      by : (weak : Bool)
          → IfRefusal (IsOfSigned true None bytes) (cond weak (dropped WeakerChallenge) (anew x))
      by true = tt
      by false = tt
  challenge_so (Some b) x = by (is_one (Some x) (Some b)) (is_ignored standing x)
    where
      sent_so : (code alike : Bool) → is_code UNAUTHORIZED (code_in bytes) ≡ code
          → IfRefusal (IsOfSigned true (Some b) bytes)
          (cond (code && alike) (refused (Some x)) (anew x))
      sent_so true true so = (refl, (refl, λ some. so))
      sent_so true false so = tt
      sent_so false alike so = tt

      by : (one weak : Bool) → IfRefusal (IsOfSigned true (Some b) bytes)
          (cond one (refused None) (cond weak (dropped WeakerChallenge) (sent_for (Some b) bytes x)))
      by true weak = (refl, (refl, λ some. cc))
      by false true = tt
      by false false =
          sent_so (is_code UNAUTHORIZED (code_in bytes)) (is_alike x.challenge b.challenge) refl

  read_so : (accepts : Bool) (before o : Option Answered)
      → IfRefusal (IsOfSigned true before bytes) (judged_read accepts standing before bytes o)
  read_so accepts before None =
      signature_so (IsOfSigned true before bytes) bytes accepts before UnanswerableChallenge
  read_so accepts before (Some x) = challenge_so before x

  current_so : (identity : Identity) (before : Option Answered)
      → IfRefusal (IsOfSigned true before bytes) (judged_by identity standing before bytes)
  current_so unsigned before = tt
  current_so (short_term name password algorithm) before =
      sole_so (IsOfSigned true before bytes) bytes algorithm (verified_algorithm bytes password)
  current_so (long_term who p accepts) before = by (is_challenge bytes)
    where
      by : (b : Bool) → IfRefusal (IsOfSigned true before bytes)
          (cond b (judged_read accepts standing before bytes (answered_in p who before bytes))
          (by_signature accepts before NotVerified bytes))
      by true = read_so accepts before (answered_in p who before bytes)
      by false = signature_so (IsOfSigned true before bytes) bytes accepts before NotVerified

  judged_so : (required is_current : Bool) (identity : Identity) (before : Option Answered)
      → IfRefusal (IsOfSigned is_current before bytes)
      (judged required is_current identity standing before bytes)
  judged_so required is_current identity before = by (fault_in required bytes)
    where
      as_so : (current : Bool) → IfRefusal (IsOfSigned current before bytes)
          (judged_as current identity standing before bytes)
      as_so true = current_so identity before
      as_so false = earlier_so (IsOfSigned false before bytes) bytes identity before

      by : (o : Option Distrust) → IfRefusal (IsOfSigned is_current before bytes)
          (unless_faulty (judged_as is_current identity standing before bytes) o)
      by None = as_so is_current
      by (Some why) = tt

  pub refused_of_signed : (required is_current : Bool) (identity : Identity)
      (before c : Option Answered)
      → judged required is_current identity standing before bytes ≡ refused c
      → IsOfSigned is_current before bytes c
  refused_of_signed required is_current identity before c is =
      subst (λ (v : Verdict). IfRefusal (IsOfSigned is_current before bytes) v) is
      (judged_so required is_current identity before)
