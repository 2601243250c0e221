-- The judgement of a response to an outstanding request (RFC 8489, sections 9.1.4 and 9.2.5).
use Rattle.std.specs.Prelude.{◌≡◌, ℕ, List, Bool, true, false, if◌then◌else◌, Option, Some, None}
use Rattle.std.specs.Prelude.{◌&&◌, string_bytes}
use Rattle.std.specs.Prelude.{◌||◌, ⊤}
use Rattle.std.specs.Option.{is_none, is_some, option_map}
use Rattle.stun_base.specs.Credentials.{NameAndPassword}
use Rattle.stun_base.specs.declared.keys.algorithm.IntegrityAlgorithm.{IntegrityAlgorithm}
use Rattle.stun_types.specs.Integrity.{verified_algorithm}
use Rattle.stun_judging.specs.Algorithms.{same_algorithm}
use Rattle.stun_judging.specs.Reading.{UNAUTHORIZED, is_code}
use Rattle.stun_extra.specs.Fingerprint.{fingerprint_in}
use Rattle.stun_extra.specs.declared.fingerprint.Fingerprint.{Fingerprint}
use Rattle.stun_extra.specs.declared.fingerprint.Fingerprint.TheVariants.{Right, Wrong}
use Rattle.stun_extra.specs.declared.fingerprint.Fingerprint.TheVariants.{Misplaced, Absent}
use Rattle.stun_client.specs.Challenges.{Answered, challenge_of, is_alike, is_one}
use Rattle.stun_client.specs.Challenging.{code_in, is_challenge}
use Rattle.stun_client.specs.Standing.{StandingSeen, is_ignored}
use Rattle.stun_client.specs.declared.credentials.Credentials.{Credentials}
use Rattle.stun_client.specs.declared.credentials.Credentials.TheVariants.{Unsigned, ShortTerm}
use Rattle.stun_client.specs.declared.credentials.Credentials.TheVariants.{LongTerm}
use Rattle.stun_client.specs.declared.judged.Distrust.{Distrust}
use Rattle.stun_client.specs.declared.judged.Distrust.TheVariants.{NotVerified, WeakerChallenge}
use Rattle.stun_client.specs.declared.judged.Distrust.TheVariants.{UnanswerableChallenge}
use Rattle.stun_client.specs.declared.judged.Distrust.TheVariants.{WrongFingerprint}
use Rattle.stun_client.specs.declared.judged.Distrust.TheVariants.{MissingFingerprint}
use Rattle.stun_client.specs.declared.judged.Judged.{Judged}
use Rattle.stun_client.specs.declared.judged.Judged.TheVariants.{Believed, Anew, Refused, Doubted}
use Rattle.stun_client.specs.declared.judged.Judged.TheVariants.{Dropped}
use Rattle.stun_client.specs.declared.preferences.Preferences.{Preferences}

-- how a client proves who it is: not at all; with the name and password of a session, and the
-- algorithm of its requests; or as a user of a realm, with these preferences, and whether unsigned
-- responses to unsigned requests are believed
pub data Identity : Type 0 where
  unsigned : Identity
  short_term : List ℕ → List ℕ → IntegrityAlgorithm → Identity
  long_term : NameAndPassword → Preferences → Bool → Identity

abbrev pub identity_of : {A : Type 0} → Credentials A → Identity
identity_of Unsigned = unsigned
identity_of (ShortTerm s) = short_term (string_bytes s.name) s.password s.algorithm
identity_of (LongTerm l) = long_term l.user l.preferences l.accepts_unsigned

-- the response ends its request and has this signature, its request is sent again for a challenge,
-- it refuses its request, it casts doubt on the message that it answers, or it is dropped. A
-- refusal is the challenge that the request was signed for, or a 401 with another challenge that
-- has the same realm and security bits
pub data Verdict : Type 0 where
  believed : Option IntegrityAlgorithm → Verdict
  anew : Answered → Verdict
  refused : Option Answered → Verdict
  doubted : Verdict
  dropped : Distrust → Verdict

-- the result of `judge`, as this type
abbrev pub verdict_of : {A : Type 0} → Judged A → Verdict
verdict_of (Believed by) = believed by
verdict_of (Anew challenge) = anew challenge
verdict_of (Refused challenge) = refused challenge
verdict_of Doubted = doubted
verdict_of (Dropped why) = dropped why

-- ---- FINGERPRINT (sections 7.3 and 14.7)

-- the reason why a message is dropped because of its FINGERPRINT, if there is one. A FINGERPRINT is
-- wrong if its CRC is wrong, if it is not the last attribute, or if its value does not have 4
-- bytes. It may be missing unless the client requires it
abbrev pub fault_of : Bool → Fingerprint → Option Distrust
fault_of required Right = None
fault_of required Wrong = Some WrongFingerprint
fault_of required Misplaced = Some WrongFingerprint
fault_of required Absent = if required then Some MissingFingerprint else None

-- why a message is dropped because of its FINGERPRINT
abbrev pub fault_in : Bool → List ℕ → Option Distrust
fault_in required bytes = fault_of required (fingerprint_in bytes)

-- ---- signatures

-- a response is believed if its signature is valid
abbrev pub by_key : Option IntegrityAlgorithm → Verdict → Verdict
by_key None otherwise = otherwise
by_key (Some a) otherwise = believed (Some a)

-- with short-term credentials the signature must have the algorithm of the request (section 9.1.4)
abbrev pub by_sole_algorithm : IntegrityAlgorithm → Option IntegrityAlgorithm → Verdict
by_sole_algorithm asked None = dropped NotVerified
by_sole_algorithm asked (Some a) =
    if same_algorithm asked a then believed (Some a) else dropped NotVerified

-- Bad Request (RFC 8489, section 14.8)
abbrev pub BAD_REQUEST : ℕ
BAD_REQUEST = 400

-- Allocation Mismatch (RFC 8656, section 19)
abbrev pub ALLOCATION_MISMATCH : ℕ
ALLOCATION_MISMATCH = 437

-- Wrong Credentials (RFC 8656, section 19)
abbrev pub WRONG_CREDENTIALS : ℕ
WRONG_CREDENTIALS = 441

-- whether an error without a valid signature casts doubt on a message that was signed for this
-- challenge. Servers send such an error, unsigned, in response to a message that was signed for a
-- challenge of somebody else. A TURN server also sends a 437 for a message whose transaction ID is
-- not the one that it has accepted
abbrev pub is_doubt : Option Answered → Option ℕ → Bool
is_doubt None code = is_code ALLOCATION_MISMATCH code
is_doubt (Some c) code =
    is_code BAD_REQUEST code || is_code ALLOCATION_MISMATCH code || is_code WRONG_CREDENTIALS code

-- a response whose signature is not valid
abbrev pub unbelieved : Option Answered → Distrust → List ℕ → Verdict
unbelieved before why bytes =
    if is_doubt before (code_in bytes) then doubted else dropped why

-- the judgement with long-term credentials, by the key that the message was signed with. If the
-- message was not signed, the response is believed only if unsigned responses are accepted
abbrev pub by_signature : Bool → Option Answered → Distrust → List ℕ → Verdict
by_signature accepts_unsigned None why bytes =
    if accepts_unsigned then believed None else unbelieved None why bytes
by_signature accepts_unsigned (Some c) why bytes =
    by_key (verified_algorithm bytes c.challenge.key) (unbelieved (Some c) why bytes)

-- ---- challenges (section 9.2.5)

-- the challenge in a message, with the preferences with which it is answered
abbrev pub answered_in : Preferences → NameAndPassword → Option Answered → List ℕ → Option Answered
answered_in p who before bytes =
    option_map (λ c. record { preferences = p; challenge = c })
    (challenge_of p who (option_map (λ (b : Answered). b.challenge) before) bytes)

-- whether a challenge is a 401, and the request was signed for a challenge with the same realm and
-- security bits
abbrev pub is_refusal : Option Answered → List ℕ → Answered → Bool
is_refusal None bytes c = false
is_refusal (Some before) bytes c =
    is_code UNAUTHORIZED (code_in bytes) && is_alike c.challenge before.challenge

-- the verdict on a challenge for which the request is sent again
abbrev pub sent_for : Option Answered → List ℕ → Answered → Verdict
sent_for before bytes c = if is_refusal before bytes c then refused (Some c) else anew c

-- the verdict on a challenge. The challenge that the request was signed for is not answered again,
-- and a challenge that is weaker than the one that a success has confirmed is dropped
abbrev pub judged_challenge : StandingSeen → Option Answered → List ℕ → Answered → Verdict
judged_challenge standing before bytes c =
    if is_one (Some c) before then refused None
    else if is_ignored standing c then dropped WeakerChallenge
    else sent_for before bytes c

-- a 401 or a 438 that is not a challenge by the rule is judged by its signature, like other errors
abbrev pub judged_read : Bool → StandingSeen → Option Answered → List ℕ → Option Answered → Verdict
judged_read accepts_unsigned standing before bytes None =
    by_signature accepts_unsigned before UnanswerableChallenge bytes
judged_read accepts_unsigned standing before bytes (Some c) =
    judged_challenge standing before bytes c

abbrev pub judged_by_long_term : Bool → Preferences → NameAndPassword → StandingSeen
    → Option Answered → List ℕ → Verdict
judged_by_long_term accepts_unsigned p who standing before bytes =
    if is_challenge bytes
    then judged_read accepts_unsigned standing before bytes (answered_in p who before bytes)
    else by_signature accepts_unsigned before NotVerified bytes

-- ---- earlier messages

-- a response to a message of the request that is not the current one is believed if it is signed
-- with the key of that message. Otherwise it has no effect, whatever it says. A 401 or a 438 is
-- dropped even if it is signed, because the request was sent again since then
abbrev pub by_own_key : Option Answered → List ℕ → Verdict
by_own_key None bytes = dropped NotVerified
by_own_key (Some c) bytes = by_key (verified_algorithm bytes c.challenge.key) (dropped NotVerified)

-- without credentials no message is signed
abbrev pub judged_earlier : Identity → Option Answered → List ℕ → Verdict
judged_earlier unsigned before bytes = dropped NotVerified
judged_earlier (short_term name password algorithm) before bytes =
    by_sole_algorithm algorithm (verified_algorithm bytes password)
judged_earlier (long_term who p accepts_unsigned) before bytes =
    if is_challenge bytes then dropped NotVerified else by_own_key before bytes

-- ---- memory

-- whether judging a response to the current message needs memory: with long-term credentials, if it
-- is a challenge that the rule does not ignore, and that is not dropped because of its FINGERPRINT
abbrev pub needs_memory : Bool → Identity → Option Answered → List ℕ → Bool
needs_memory required unsigned before bytes = false
needs_memory required (short_term name password algorithm) before bytes = false
needs_memory required (long_term who p accepts_unsigned) before bytes =
    is_none (fault_in required bytes) && is_some (answered_in p who before bytes)

-- ---- all of it

abbrev pub judged_by : Identity → StandingSeen → Option Answered → List ℕ → Verdict
judged_by unsigned standing before bytes = believed None
judged_by (short_term name password algorithm) standing before bytes =
    by_sole_algorithm algorithm (verified_algorithm bytes password)
judged_by (long_term who p accepts_unsigned) standing before bytes =
    judged_by_long_term accepts_unsigned p who standing before bytes

-- the verdict, unless the message is dropped because of its FINGERPRINT, which is tested first
abbrev pub unless_faulty : Verdict → Option Distrust → Verdict
unless_faulty verdict None = verdict
unless_faulty verdict (Some why) = dropped why

-- the judgement of a response to the current message of a request, or to an earlier one
abbrev pub judged_as : Bool → Identity → StandingSeen → Option Answered → List ℕ → Verdict
judged_as is_current identity standing before bytes =
    if is_current then judged_by identity standing before bytes
    else judged_earlier identity before bytes

-- the judgement of a response. `required` is whether the client requires FINGERPRINT, and
-- `is_current` whether the response answers the current message of its request or an earlier one.
-- `before` is the challenge that the answered message was signed for
abbrev pub judged : Bool → Bool → Identity → StandingSeen → Option Answered → List ℕ → Verdict
judged required is_current identity standing before bytes =
    unless_faulty (judged_as is_current identity standing before bytes) (fault_in required bytes)

-- ---- what follows

-- a response with this signature may be believed. Without credentials, each response may be
-- believed. With short-term credentials, it must be signed with the password, and with the
-- algorithm of the request. With long-term credentials, it must be signed with the key of the
-- request, or neither is signed and the client accepts that
abbrev pub IsBelievable : Identity → Option Answered → List ℕ → Option IntegrityAlgorithm → Type 0
IsBelievable unsigned before bytes by = by ≡ None
IsBelievable (short_term name password algorithm) before bytes by =
    (by ≡ Some algorithm) × (verified_algorithm bytes password ≡ Some algorithm)
IsBelievable (long_term who p accepts_unsigned) None bytes by =
    (by ≡ None) × (accepts_unsigned ≡ true)
IsBelievable (long_term who p accepts_unsigned) (Some c) bytes by =
    (a : IntegrityAlgorithm) × ((by ≡ Some a) × (verified_algorithm bytes c.challenge.key ≡ Some a))

-- the algorithm of the response's signature, if that is valid under the key of the message which it
-- answers. A message that was not signed has no key
abbrev pub signed_with : Identity → Option Answered → List ℕ → Option IntegrityAlgorithm
signed_with unsigned before bytes = None
signed_with (short_term name password algorithm) before bytes = verified_algorithm bytes password
signed_with (long_term who p accepts_unsigned) None bytes = None
signed_with (long_term who p accepts_unsigned) (Some c) bytes =
    verified_algorithm bytes c.challenge.key

-- whether an unsigned response to a message is accepted: without credentials, or if the message was
-- not signed and the client accepts unsigned responses
abbrev pub takes_unsigned : Identity → Option Answered → Bool
takes_unsigned unsigned before = true
takes_unsigned (short_term name password algorithm) before = false
takes_unsigned (long_term who p accepts_unsigned) None = accepts_unsigned
takes_unsigned (long_term who p accepts_unsigned) (Some c) = false

-- a response ends its request, or has no effect
abbrev pub IsEndOrNothing : Verdict → Type 0
IsEndOrNothing (believed by) = ⊤
IsEndOrNothing (anew challenge) = ⊥
IsEndOrNothing (refused challenge) = ⊥
IsEndOrNothing doubted = ⊥
IsEndOrNothing (dropped why) = ⊤

-- a request must be sent again for a challenge
abbrev pub IsSentAgain : Verdict → Answered → Type 0
IsSentAgain (believed by) c = ⊥
IsSentAgain (anew challenge) c = challenge ≡ c
IsSentAgain (refused challenge) c = challenge ≡ Some c
IsSentAgain doubted c = ⊥
IsSentAgain (dropped why) c = ⊥

-- a request is sent again for a challenge: the one that the rule reads in the response, with the
-- client's own preferences. It is not the one that the request was signed for, nor weaker than what
-- a success has confirmed
pub record IsAnsweredAnew (p : Preferences) (who : NameAndPassword) (standing : StandingSeen)
    (before : Option Answered) (bytes : List ℕ) (c : Answered) : Type 0 where
  pub challenge : answered_in p who before bytes ≡ Some c
  pub own : c.preferences ≡ p
  pub new : is_one (Some c) before ≡ false
  pub strong : is_ignored standing c ≡ false
