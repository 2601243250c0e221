-- What a response is judged to be: believed only if it may be, and sent again only for a challenge of
-- its own.
use Rattle.std.proofs.Common.{◌≡◌, Bool, true, false, ℕ, List, Option, Some, None, cond}
use Rattle.std.proofs.Common.{◌∙◌, ap, refl, subst, sym}
use Rattle.std.specs.Prelude.{◌&&◌}
use Rattle.std.specs.Option.{IfSome, IsSome, is_none, is_some, option_map}
use Rattle.stun_base.specs.Credentials.{NameAndPassword}
use Rattle.stun_base.specs.declared.keys.algorithm.IntegrityAlgorithm.{IntegrityAlgorithm}
use Rattle.stun_base.specs.declared.keys.algorithm.IntegrityAlgorithm.TheVariants.{Sha1, Sha256}
use Rattle.stun_types.specs.Integrity.{verified_algorithm}
use Rattle.stun_client.specs.Challenge.{Challenge}
use Rattle.stun_client.specs.Challenges.{Answered, challenge_of, is_one}
use Rattle.stun_client.specs.Challenging.{code_in, is_challenge}
use Rattle.stun_client.specs.Judging.{Identity, IsAnsweredAnew, IsBelievable, IsEndOrNothing}
use Rattle.stun_client.specs.Judging.{IsSentAgain, Verdict, answered_in, is_refusal, refused}
use Rattle.stun_client.specs.Judging.{anew, believed, by_key, by_own_key, by_signature}
use Rattle.stun_client.specs.Judging.{by_sole_algorithm, doubted, dropped, fault_in, is_doubt, judged}
use Rattle.stun_client.specs.Judging.{judged_as, judged_by, judged_by_long_term, judged_earlier}
use Rattle.stun_client.specs.Judging.{judged_read, long_term, short_term, signed_with}
use Rattle.stun_client.specs.Judging.{takes_unsigned, unbelieved, unless_faulty, unsigned}
use Rattle.stun_client.specs.Standing.{StandingSeen, is_ignored}
use Rattle.stun_client.specs.declared.judged.Distrust.{Distrust}
use Rattle.stun_client.specs.declared.judged.Distrust.TheVariants.{NotVerified, WeakerChallenge}
use Rattle.stun_client.specs.declared.judged.Distrust.TheVariants.{UnanswerableChallenge}
use Rattle.stun_client.specs.declared.preferences.Preferences.{Preferences}

-- ---- reading a challenge

abbrev with_preferences : Preferences → Challenge → Answered
with_preferences p c = record { preferences = p; challenge = c }

pub answered : (p : Preferences) (read : Option Answered) (is : Option Challenge)
    → option_map (λ c. c.challenge) read ≡ is → IfSome read (λ c. c.preferences ≡ p)
    → read ≡ option_map (λ c. record { preferences = p; challenge = c }) is
answered p None is found ours = ap (option_map (with_preferences p)) found
answered p (Some c) is found ours =
    ap (λ q. Some (with_preferences q c.challenge)) ours
    ∙ ap (option_map (with_preferences p)) found

-- without a challenge nothing is read
pub not_answered : (p : Preferences) (is : Option Challenge)
    → option_map (with_preferences p) is ≡ None → is ≡ None
not_answered p None none = refl
not_answered p (Some c) none = cc

-- judging needs no memory for what has no fault, only if it is no challenge
pub not_needed : (fault : Option Distrust) (read : Option Answered) → fault ≡ None
    → (is_none fault && is_some read) ≡ false → read ≡ None
not_needed (Some why) read whole unneeded = cc
not_needed None None whole unneeded = refl
not_needed None (Some c) whole unneeded = cc

-- ---- belief

by_key_believed : (v : Option IntegrityAlgorithm) (otherwise : Verdict)
    (by : Option IntegrityAlgorithm) → (otherwise ≡ believed by → ⊥)
    → by_key v otherwise ≡ believed by → (a : IntegrityAlgorithm) × ((by ≡ Some a) × (v ≡ Some a))
by_key_believed None otherwise by not is = absurd (not is)
by_key_believed (Some a) otherwise by not is = (a, (cc, refl))

-- what casts doubt, or is dropped, is not believed
doubt_not_believed : (doubts : Bool) (why : Distrust) (by : Option IntegrityAlgorithm)
    → cond doubts doubted (dropped why) ≡ believed by → ⊥
doubt_not_believed true why by is = cc
doubt_not_believed false why by is = cc

drop_not_believed : (why : Distrust) (by : Option IntegrityAlgorithm) → dropped why ≡ believed by → ⊥
drop_not_believed why by is = cc

unsigned_believed : (accepts doubts : Bool) (why : Distrust) (by : Option IntegrityAlgorithm)
    → cond accepts (believed None) (cond doubts doubted (dropped why)) ≡ believed by
    → (by ≡ None) × (accepts ≡ true)
unsigned_believed true doubts why by is = (cc, refl)
unsigned_believed false doubts why by is = absurd (doubt_not_believed doubts why by is)

signature_believed : (who : NameAndPassword) (p : Preferences) (accepts : Bool)
    (before : Option Answered) (why : Distrust) (bytes : List ℕ) (by : Option IntegrityAlgorithm)
    → by_signature accepts before why bytes ≡ believed by
    → IsBelievable (long_term who p accepts) before bytes by
signature_believed who p accepts None why bytes by is =
    unsigned_believed accepts (is_doubt None (code_in bytes)) why by is
signature_believed who p accepts (Some c) why bytes by is =
    by_key_believed (verified_algorithm bytes c.challenge.key) (unbelieved (Some c) why bytes) by
    (doubt_not_believed (is_doubt (Some c) (code_in bytes)) why by) is

challenge_not_believed : (one weak again : Bool) (c : Answered) (by : Option IntegrityAlgorithm)
    → cond one (refused None) (cond weak (dropped WeakerChallenge) (cond again (refused (Some c)) (anew c)))
    ≡ believed by → ⊥
challenge_not_believed true weak again c by is = cc
challenge_not_believed false true again c by is = cc
challenge_not_believed false false true c by is = cc
challenge_not_believed false false false c by is = cc

long_term_believed : (who : NameAndPassword) (p : Preferences) (accepts : Bool)
    (standing : StandingSeen) (before : Option Answered) (bytes : List ℕ)
    (by : Option IntegrityAlgorithm)
    → judged_by_long_term accepts p who standing before bytes ≡ believed by
    → IsBelievable (long_term who p accepts) before bytes by
long_term_believed who p accepts standing before bytes by =
    cases (is_challenge bytes) (answered_in p who before bytes)
  where
    cases : (b : Bool) (read : Option Answered)
        → cond b (judged_read accepts standing before bytes read)
        (by_signature accepts before NotVerified bytes) ≡ believed by
        → IsBelievable (long_term who p accepts) before bytes by
    cases true None is =
        signature_believed who p accepts before UnanswerableChallenge bytes by is
    cases true (Some c) is =
        absurd (challenge_not_believed (is_one (Some c) before) (is_ignored standing c)
        (is_refusal before bytes c) c by is)
    cases false read is = signature_believed who p accepts before NotVerified bytes by is

short_term_believed : (asked : IntegrityAlgorithm) (v by : Option IntegrityAlgorithm)
    → by_sole_algorithm asked v ≡ believed by → (by ≡ Some asked) × (v ≡ Some asked)
short_term_believed asked None by is = cc
short_term_believed Sha1 (Some Sha1) by is = (cc, refl)
short_term_believed Sha1 (Some Sha256) by is = cc
short_term_believed Sha256 (Some Sha1) by is = cc
short_term_believed Sha256 (Some Sha256) by is = (cc, refl)

-- what is believed of an earlier message is signed with its key
own_key_believed : (before : Option Answered) (bytes : List ℕ) (by : Option IntegrityAlgorithm)
    → by_own_key before bytes ≡ believed by
    → (c : Answered) × ((before ≡ Some c) × ((a : IntegrityAlgorithm) × ((by ≡ Some a)
    × (verified_algorithm bytes c.challenge.key ≡ Some a))))
own_key_believed None bytes by is = cc
own_key_believed (Some c) bytes by is = (
  c,
  (
    refl,
    by_key_believed (verified_algorithm bytes c.challenge.key) (dropped NotVerified) by
        (drop_not_believed NotVerified by) is,
  ),
)

long_term_earlier : (who : NameAndPassword) (p : Preferences) (accepts : Bool)
    (before : Option Answered) (bytes : List ℕ) (by : Option IntegrityAlgorithm)
    → judged_earlier (long_term who p accepts) before bytes ≡ believed by
    → (c : Answered) × ((before ≡ Some c) × ((a : IntegrityAlgorithm) × ((by ≡ Some a)
    × (verified_algorithm bytes c.challenge.key ≡ Some a))))
long_term_earlier who p accepts before bytes by = cases (is_challenge bytes)
  where
    cases : (b : Bool) → cond b (dropped NotVerified) (by_own_key before bytes) ≡ believed by
        → (c : Answered) × ((before ≡ Some c) × ((a : IntegrityAlgorithm) × ((by ≡ Some a)
        × (verified_algorithm bytes c.challenge.key ≡ Some a))))
    cases true is = cc
    cases false is = own_key_believed before bytes by is

-- so it is signed, and by the key of its message
record IsSigned (identity : Identity) (before : Option Answered) (bytes : List ℕ)
    (by : Option IntegrityAlgorithm) : Type 0 where
  algorithm : IntegrityAlgorithm
  signed : by ≡ Some algorithm
  valid : signed_with identity before bytes ≡ Some algorithm
  believable : IsBelievable identity before bytes by

earlier_signed : (identity : Identity) (before : Option Answered) (bytes : List ℕ)
    (by : Option IntegrityAlgorithm) → judged_earlier identity before bytes ≡ believed by
    → IsSigned identity before bytes by
earlier_signed unsigned before bytes by is = cc
earlier_signed (short_term name password algorithm) before bytes by is =
    let both = short_term_believed algorithm (verified_algorithm bytes password) by is in
    record { algorithm = algorithm; signed = both.0; valid = both.1; believable = both }
earlier_signed (long_term who p accepts) before bytes by is =
    let signed = long_term_earlier who p accepts before bytes by is in
    subst (λ (o : Option Answered). IsSigned (long_term who p accepts) o bytes by) (sym signed.1.0)
    (record {
      algorithm = signed.1.1.0;
      signed = signed.1.1.1.0;
      valid = signed.1.1.1.1;
      believable = signed.1.1;
    })

current_believable : (identity : Identity) (standing : StandingSeen) (before : Option Answered)
    (bytes : List ℕ) (by : Option IntegrityAlgorithm)
    → judged_by identity standing before bytes ≡ believed by → IsBelievable identity before bytes by
current_believable unsigned standing before bytes by is = cc
current_believable (short_term name password algorithm) standing before bytes by is =
    short_term_believed algorithm (verified_algorithm bytes password) by is
current_believable (long_term who p accepts) standing before bytes by is =
    long_term_believed who p accepts standing before bytes by is

-- what is believed has no fault, and is believed for itself
unfaulty : (v : Verdict) (fault : Option Distrust) (by : Option IntegrityAlgorithm)
    → unless_faulty v fault ≡ believed by → (fault ≡ None) × (v ≡ believed by)
unfaulty v None by is = (refl, is)
unfaulty v (Some why) by is = cc

pub believable : (required is_current : Bool) (identity : Identity) (standing : StandingSeen)
    (before : Option Answered) (bytes : List ℕ) (by : Option IntegrityAlgorithm)
    → judged required is_current identity standing before bytes ≡ believed by
    → IsBelievable identity before bytes by
believable required is_current identity standing before bytes by is =
    cases is_current (unfaulty (judged_as is_current identity standing before bytes)
    (fault_in required bytes) by is).1
  where
    cases : (b : Bool) → cond b (judged_by identity standing before bytes)
        (judged_earlier identity before bytes) ≡ believed by → IsBelievable identity before bytes by
    cases true is = current_believable identity standing before bytes by is
    cases false is = (earlier_signed identity before bytes by is).believable

-- what nobody signed is not believed
pub not_believed : (required is_current : Bool) (who : NameAndPassword) (p : Preferences)
    (accepts : Bool) (standing : StandingSeen) (before : Answered) (bytes : List ℕ)
    (by : Option IntegrityAlgorithm) → verified_algorithm bytes before.challenge.key ≡ None
    → judged required is_current (long_term who p accepts) standing (Some before) bytes ≡ believed by
    → ⊥
not_believed required is_current who p accepts standing before bytes by none is =
    let signed = believable required is_current (long_term who p accepts) standing (Some before) bytes
    by is in
    let some = signed.1.1 in
    cc

pub first_not_believed : (required is_current : Bool) (who : NameAndPassword) (p : Preferences)
    (standing : StandingSeen) (bytes : List ℕ) (by : Option IntegrityAlgorithm)
    → judged required is_current (long_term who p false) standing None bytes ≡ believed by → ⊥
first_not_believed required is_current who p standing bytes by is =
    let accepted = (believable required is_current (long_term who p false) standing None bytes by
    is).1 in
    cc

-- what is believed has no fault
pub faultless : (required is_current : Bool) (identity : Identity) (standing : StandingSeen)
    (before : Option Answered) (bytes : List ℕ) (by : Option IntegrityAlgorithm)
    → judged required is_current identity standing before bytes ≡ believed by
    → fault_in required bytes ≡ None
faultless required is_current identity standing before bytes by is =
    (unfaulty (judged_as is_current identity standing before bytes) (fault_in required bytes) by is).0

-- ---- earlier messages

pub earlier_by_signature : (required : Bool) (identity : Identity) (standing : StandingSeen)
    (before : Option Answered) (bytes : List ℕ) (by : Option IntegrityAlgorithm)
    → judged required false identity standing before bytes ≡ believed by
    → IsSome by × (signed_with identity before bytes ≡ by)
earlier_by_signature required identity standing before bytes by is =
    let signed = earlier_signed identity before bytes by
    (unfaulty (judged_earlier identity before bytes) (fault_in required bytes) by is).1 in
    (ap is_some signed.signed, signed.valid ∙ sym signed.signed)

own_key_ends : (v : Option IntegrityAlgorithm) → IsEndOrNothing (by_key v (dropped NotVerified))
own_key_ends None = tt
own_key_ends (Some a) = tt

sole_ends : (asked : IntegrityAlgorithm) (v : Option IntegrityAlgorithm)
    → IsEndOrNothing (by_sole_algorithm asked v)
sole_ends asked None = tt
sole_ends Sha1 (Some Sha1) = tt
sole_ends Sha1 (Some Sha256) = tt
sole_ends Sha256 (Some Sha1) = tt
sole_ends Sha256 (Some Sha256) = tt

earlier_ends : (identity : Identity) (before : Option Answered) (bytes : List ℕ)
    → IsEndOrNothing (judged_earlier identity before bytes)
earlier_ends unsigned before bytes = tt
earlier_ends (short_term name password algorithm) before bytes =
    sole_ends algorithm (verified_algorithm bytes password)
earlier_ends (long_term who p accepts) before bytes = cases (is_challenge bytes) before
  where
    cases : (b : Bool) (o : Option Answered)
        → IsEndOrNothing (cond b (dropped NotVerified) (by_own_key o bytes))
    cases true o = tt
    cases false None = tt
    cases false (Some c) = own_key_ends (verified_algorithm bytes c.challenge.key)

pub earlier_ends_or_nothing : (required : Bool) (identity : Identity) (standing : StandingSeen)
    (before : Option Answered) (bytes : List ℕ)
    → IsEndOrNothing (judged required false identity standing before bytes)
earlier_ends_or_nothing required identity standing before bytes = cases (fault_in required bytes)
  where
    cases : (fault : Option Distrust)
        → IsEndOrNothing (unless_faulty (judged_earlier identity before bytes) fault)
    cases None = earlier_ends identity before bytes
    cases (Some why) = tt

-- ---- without a valid signature

-- what may be believed although its signature is not valid is unsigned, and that is accepted
believable_unsigned : (identity : Identity) (before : Option Answered) (bytes : List ℕ)
    (by : Option IntegrityAlgorithm) → signed_with identity before bytes ≡ None
    → IsBelievable identity before bytes by
    → (by ≡ None) × (takes_unsigned identity before ≡ true)
believable_unsigned unsigned before bytes by none is = (is, refl)
believable_unsigned (short_term name password algorithm) before bytes by none is =
    let some = is.1 in
    cc
believable_unsigned (long_term who p accepts) None bytes by none is = is
believable_unsigned (long_term who p accepts) (Some c) bytes by none is =
    let some = is.1.1 in
    cc

pub unsigned_ends : (required is_current : Bool) (identity : Identity) (standing : StandingSeen)
    (before : Option Answered) (bytes : List ℕ) (by : Option IntegrityAlgorithm)
    → signed_with identity before bytes ≡ None
    → judged required is_current identity standing before bytes ≡ believed by
    → (takes_unsigned identity before ≡ true) × (is_current ≡ true)
unsigned_ends required is_current identity standing before bytes by none is =
    let accepted = believable_unsigned identity before bytes by none
    (believable required is_current identity standing before bytes by is) in
    (accepted.1, current is_current is)
  where
    current : (b : Bool) → judged required b identity standing before bytes ≡ believed by
        → b ≡ true
    current true is = refl
    current false is =
        let signed = earlier_by_signature required identity standing before bytes by is in
        let some : is_some (signed_with identity before bytes) ≡ true =
        ap is_some signed.1 ∙ signed.0 in
        cc

-- ---- sending again

doubt_not_anew : (doubts : Bool) (why : Distrust) (c : Answered)
    → IsSentAgain (cond doubts doubted (dropped why)) c → ⊥
doubt_not_anew true why c is = absurd is
doubt_not_anew false why c is = absurd is

signature_not_anew : (accepts : Bool) (before : Option Answered) (why : Distrust) (bytes : List ℕ)
    (c : Answered) → IsSentAgain (by_signature accepts before why bytes) c → ⊥
signature_not_anew true None why bytes c is = absurd is
signature_not_anew false None why bytes c is =
    doubt_not_anew (is_doubt None (code_in bytes)) why c is
signature_not_anew accepts (Some d) why bytes c is = by (verified_algorithm bytes d.challenge.key) is
  where
    by : (v : Option IntegrityAlgorithm)
        → IsSentAgain (by_key v (unbelieved (Some d) why bytes)) c → ⊥
    by None is = doubt_not_anew (is_doubt (Some d) (code_in bytes)) why c is
    by (Some a) is = absurd is

challenge_anew : (one weak again : Bool) (d c : Answered)
    → IsSentAgain (cond one (refused None) (cond weak (dropped WeakerChallenge)
    (cond again (refused (Some d)) (anew d)))) c
    → (one ≡ false) × (weak ≡ false) × (d ≡ c)
challenge_anew true weak again d c is = cc
challenge_anew false true again d c is = absurd is
challenge_anew false false true d c is = (refl, refl, cc)
challenge_anew false false false d c is = (refl, refl, is)

-- a challenge that is read is of the preferences that it is read by
own_preferences : (p : Preferences) (is : Option Challenge) (c : Answered)
    → option_map (with_preferences p) is ≡ Some c → c.preferences ≡ p
own_preferences p None c read = cc
own_preferences p (Some d) c read = cc

long_term_anew : (who : NameAndPassword) (p : Preferences) (accepts : Bool)
    (standing : StandingSeen) (before : Option Answered) (bytes : List ℕ) (c : Answered)
    → IsSentAgain (judged_by_long_term accepts p who standing before bytes) c
    → IsAnsweredAnew p who standing before bytes c
long_term_anew who p accepts standing before bytes c =
    cases (is_challenge bytes) (answered_in p who before bytes) refl
  where
    cases : (b : Bool) (read : Option Answered) → answered_in p who before bytes ≡ read
        → IsSentAgain (cond b (judged_read accepts standing before bytes read)
        (by_signature accepts before NotVerified bytes)) c
        → IsAnsweredAnew p who standing before bytes c
    cases true None read is =
        absurd (signature_not_anew accepts before UnanswerableChallenge bytes c is)
    cases true (Some d) read is =
        let was = challenge_anew (is_one (Some d) before) (is_ignored standing d)
        (is_refusal before bytes d) d c is in
        record {
          challenge = read ∙ ap (λ x. Some x) was.2;
          own = own_preferences p (challenge_of p who
              (option_map (λ (b : Answered). b.challenge) before) bytes) c
              (read ∙ ap (λ x. Some x) was.2);
          new = subst (λ x. is_one (Some x) before ≡ false) was.2 was.0;
          strong = subst (λ x. is_ignored standing x ≡ false) was.2 was.1;
        }
    cases false read found is = absurd (signature_not_anew accepts before NotVerified bytes c is)

-- what ends a request, or nothing comes of, sends none again
end_not_anew : (v : Verdict) (c : Answered) → IsEndOrNothing v → IsSentAgain v c → ⊥
end_not_anew (believed by) c ends is = absurd is
end_not_anew (anew d) c ends is = absurd ends
end_not_anew (refused d) c ends is = absurd ends
end_not_anew doubted c ends is = absurd is
end_not_anew (dropped why) c ends is = absurd is

pub answered_anew : (required is_current : Bool) (who : NameAndPassword) (p : Preferences)
    (accepts : Bool) (standing : StandingSeen) (before : Option Answered) (bytes : List ℕ)
    (c : Answered)
    → IsSentAgain (judged required is_current (long_term who p accepts) standing before bytes) c
    → IsAnsweredAnew p who standing before bytes c
answered_anew required is_current who p accepts standing before bytes c =
    cases (fault_in required bytes) is_current
  where
    identity : Identity
    identity = long_term who p accepts

    cases : (fault : Option Distrust) (b : Bool)
        → IsSentAgain (unless_faulty (judged_as b identity standing before bytes) fault) c
        → IsAnsweredAnew p who standing before bytes c
    cases (Some why) b is = absurd is
    cases None true is = long_term_anew who p accepts standing before bytes c is
    cases None false is =
        absurd (end_not_anew (judged_earlier identity before bytes) c
        (earlier_ends identity before bytes) is)
