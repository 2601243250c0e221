-- Which challenges a client regards as a refusal of its request (RFC 8489, section 9.2.5).
use Rattle.std.specs.Prelude.{◌≡◌, ℕ, Bool, true, List, Option, Some}
use Rattle.stun_base.specs.Credentials.{NameAndPassword}
use Rattle.stun_judging.specs.Reading.{UNAUTHORIZED, is_code}
use Rattle.stun_judging.specs.Nonces.{asks_for_algorithms, asks_for_userhash}
use Rattle.stun_client.specs.Challenges.{Answered}
use Rattle.stun_client.specs.Challenging.{code_in}
use Rattle.stun_client.specs.Judging.{judged, long_term, refused, sent_for}
use Rattle.stun_client.specs.Standing.{StandingSeen}
use Rattle.stun_client.specs.declared.preferences.Preferences.{Preferences}

-- a challenge refuses a request: the request was signed already, for the same realm and for a nonce
-- that asks for the same credentials, and the response is a 401. A 438 only says that the nonce has
-- expired
pub record IsRefusal (before : Option Answered) (bytes : List ℕ) (c : Answered) : Type 0 where
  pub first : Answered
  pub signed : before ≡ Some first
  pub code : is_code UNAUTHORIZED (code_in bytes) ≡ true
  pub realm : c.challenge.realm ≡ first.challenge.realm
  pub algorithms : asks_for_algorithms c.challenge.nonce ≡ asks_for_algorithms first.challenge.nonce
  pub hashes : asks_for_userhash c.challenge.nonce ≡ asks_for_userhash first.challenge.nonce

-- each challenge that counts as a refusal is one
abbrev pub RefusalsAreOfTheSameCredentials : Type 0
RefusalsAreOfTheSameCredentials =
    (required : Bool) (who : NameAndPassword) (p : Preferences) (accepts_unsigned : Bool)
    (standing : StandingSeen) (before : Option Answered) (bytes : List ℕ) (c : Answered)
    → judged required true (long_term who p accepts_unsigned) standing before bytes ≡ refused (Some c)
    → IsRefusal before bytes c

-- and each such challenge for which a request is sent again counts
abbrev pub SameCredentialsAreRefused : Type 0
SameCredentialsAreRefused =
    (before : Option Answered) (bytes : List ℕ) (c : Answered) → IsRefusal before bytes c
    → sent_for before bytes c ≡ refused (Some c)
