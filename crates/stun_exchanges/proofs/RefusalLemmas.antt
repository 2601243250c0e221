-- A refusal is a 401 for the realm and the security bits of the challenge before.
use Rattle.std.proofs.Common.{◌≡◌, ◌∙◌, ℕ, Bool, true, false, List, Option, Some, None, ap, cond, refl}
use Rattle.std.proofs.Common.{sym}
use Rattle.std.specs.Prelude.{◌&&◌}
use Rattle.std.specs.Str.{bytes_eq}
use Rattle.std.proofs.lemmas.Slice.Eq.{bytes_eq-Decides}
use Rattle.stun_base.specs.Credentials.{NameAndPassword}
use Rattle.stun_base.specs.declared.keys.algorithm.IntegrityAlgorithm.{IntegrityAlgorithm}
use Rattle.stun_types.specs.Integrity.{verified_algorithm}
use Rattle.stun_judging.specs.Reading.{UNAUTHORIZED, is_code}
use Rattle.stun_judging.specs.Nonces.{asks_for_algorithms, asks_for_userhash}
use Rattle.stun_client.specs.Challenges.{Answered, is_alike, is_one, is_same_bit}
use Rattle.stun_client.specs.Challenging.{code_in, is_challenge}
use Rattle.stun_client.specs.Judging.{answered_in, anew, believed, by_key, by_signature, dropped}
use Rattle.stun_client.specs.Judging.{doubted, fault_in, is_doubt, is_refusal, judged}
use Rattle.stun_client.specs.Judging.{judged_by_long_term, judged_read, long_term, refused, sent_for}
use Rattle.stun_client.specs.Judging.{unbelieved, unless_faulty}
use Rattle.stun_client.specs.Standing.{StandingSeen, is_ignored}
use Rattle.stun_client.specs.declared.judged.Distrust.{Distrust}
use Rattle.stun_client.specs.declared.judged.Distrust.TheVariants.{NotVerified, UnanswerableChallenge}
use Rattle.stun_client.specs.declared.judged.Distrust.TheVariants.{WeakerChallenge}
use Rattle.stun_client.specs.declared.preferences.Preferences.{Preferences}
use Rattle.stun_exchanges.specs.Refusals.{IsRefusal}

both : (a b : Bool) → (a && b) ≡ true → (a ≡ true) × (b ≡ true)
both true b is = (refl, is)
both false b is = cc

bit_same : (x y : Bool) → is_same_bit x y ≡ true → x ≡ y
bit_same true true is = refl
bit_same true false is = cc
bit_same false true is = cc
bit_same false false is = refl

same_bit : (x y : Bool) → x ≡ y → is_same_bit x y ≡ true
same_bit true true is = refl
same_bit true false is = cc
same_bit false true is = cc
same_bit false false is = refl

-- ---- what counts

counts : (before : Option Answered) (bytes : List ℕ) (c : Answered)
    → is_refusal before bytes c ≡ true → IsRefusal before bytes c
counts None bytes c is = cc
counts (Some first) bytes c is =
    let parts = both (is_code UNAUTHORIZED (code_in bytes)) (is_alike c.challenge first.challenge) is in
    let alike = both (bytes_eq c.challenge.realm first.challenge.realm)
    (is_same_bit (asks_for_algorithms c.challenge.nonce) (asks_for_algorithms first.challenge.nonce)
    && is_same_bit (asks_for_userhash c.challenge.nonce) (asks_for_userhash first.challenge.nonce))
    parts.1 in
    let bits = both
    (is_same_bit (asks_for_algorithms c.challenge.nonce) (asks_for_algorithms first.challenge.nonce))
    (is_same_bit (asks_for_userhash c.challenge.nonce) (asks_for_userhash first.challenge.nonce))
    alike.1 in
    record {
      first = first;
      signed = refl;
      code = parts.0;
      realm = (bytes_eq-Decides c.challenge.realm first.challenge.realm).0 alike.0;
      algorithms = bit_same (asks_for_algorithms c.challenge.nonce)
          (asks_for_algorithms first.challenge.nonce) bits.0;
      hashes = bit_same (asks_for_userhash c.challenge.nonce) (asks_for_userhash first.challenge.nonce)
          bits.1;
    }

all_true : (a b c d : Bool) → a ≡ true → b ≡ true → c ≡ true → d ≡ true
    → (a && (b && (c && d))) ≡ true
all_true true true true true one two three four = refl
all_true true true true false one two three four = cc
all_true true true false d one two three four = cc
all_true true false c d one two three four = cc
all_true false b c d one two three four = cc

pub refused_so : (before : Option Answered) (bytes : List ℕ) (c : Answered)
    → IsRefusal before bytes c → sent_for before bytes c ≡ refused (Some c)
refused_so before bytes c is =
    ap (λ (o : Option Answered). sent_for o bytes c) is.signed
    ∙ ap (λ b. cond b (refused (Some c)) (anew c))
    (all_true (is_code UNAUTHORIZED (code_in bytes))
    (bytes_eq c.challenge.realm is.first.challenge.realm)
    (is_same_bit (asks_for_algorithms c.challenge.nonce) (asks_for_algorithms is.first.challenge.nonce))
    (is_same_bit (asks_for_userhash c.challenge.nonce) (asks_for_userhash is.first.challenge.nonce))
    is.code
    ((bytes_eq-Decides c.challenge.realm is.first.challenge.realm).1 is.realm)
    (same_bit (asks_for_algorithms c.challenge.nonce) (asks_for_algorithms is.first.challenge.nonce)
    is.algorithms)
    (same_bit (asks_for_userhash c.challenge.nonce) (asks_for_userhash is.first.challenge.nonce)
    is.hashes))

-- ---- what a response comes to

module _ (accepts_unsigned : Bool) (standing : StandingSeen) (before : Option Answered)
    (bytes : List ℕ) (c : Answered) where
  by_signature_not : (o : Option Answered) (why : Distrust)
      → by_signature accepts_unsigned o why bytes ≡ refused (Some c) → ⊥
  by_signature_not None why is = by accepts_unsigned (is_doubt None (code_in bytes)) is
    where
      by : (b doubts : Bool) → cond b (believed None) (cond doubts doubted (dropped why))
          ≡ refused (Some c) → ⊥
      by true doubts is = cc
      by false true is = cc
      by false false is = cc
  by_signature_not (Some d) why is = by (verified_algorithm bytes d.challenge.key) is
    where
      unbelieved_not : (doubts : Bool) → cond doubts doubted (dropped why) ≡ refused (Some c) → ⊥
      unbelieved_not true is = cc
      unbelieved_not false is = cc

      by : (o : Option IntegrityAlgorithm)
          → by_key o (unbelieved (Some d) why bytes) ≡ refused (Some c) → ⊥
      by None is = unbelieved_not (is_doubt (Some d) (code_in bytes)) is
      by (Some a) is = cc

  sent_so : (d : Answered) (b : Bool) → is_refusal before bytes d ≡ b
      → cond b (refused (Some d)) (anew d) ≡ refused (Some c) → IsRefusal before bytes c
  sent_so d false fails is = cc
  sent_so d true holds is =
      let same : d ≡ c = cc in
      counts before bytes c (ap (is_refusal before bytes) (sym same) ∙ holds)

  challenge_so : (d : Answered) (one ignored : Bool)
      → cond one (refused None) (cond ignored (dropped WeakerChallenge) (sent_for before bytes d))
      ≡ refused (Some c) → IsRefusal before bytes c
  challenge_so d true ignored is = cc
  challenge_so d false true is = cc
  challenge_so d false false is = sent_so d (is_refusal before bytes d) refl is

  read_so : (o : Option Answered)
      → judged_read accepts_unsigned standing before bytes o ≡ refused (Some c)
      → IsRefusal before bytes c
  read_so None is = absurd (by_signature_not before UnanswerableChallenge is)
  read_so (Some d) is = challenge_so d (is_one (Some d) before) (is_ignored standing d) is

  pub refusal_of : (required : Bool) (who : NameAndPassword) (p : Preferences)
      → judged required true (long_term who p accepts_unsigned) standing before bytes ≡ refused (Some c)
      → IsRefusal before bytes c
  refusal_of required who p is = by_fault (fault_in required bytes) is
    where
      asked : (b : Bool) → cond b
          (judged_read accepts_unsigned standing before bytes (answered_in p who before bytes))
          (by_signature accepts_unsigned before NotVerified bytes) ≡ refused (Some c)
          → IsRefusal before bytes c
      asked true is = read_so (answered_in p who before bytes) is
      asked false is = absurd (by_signature_not before NotVerified is)

      by_fault : (o : Option Distrust)
          → unless_faulty (judged_by_long_term accepts_unsigned p who standing before bytes) o
          ≡ refused (Some c) → IsRefusal before bytes c
      by_fault None is = asked (is_challenge bytes) is
      by_fault (Some why) is = cc
