-- How a client answers a message, and its state after it (RFC 8489, section 9.2.5). It is a
-- function of the client's settings, its state and the reading of the message.
use Rattle.std.specs.Prelude.{[]}
use Rattle.std.specs.Prelude.{ℕ, List, find, Bool, true, false, not, ◌&&◌}
use Rattle.std.specs.Prelude.{if◌then◌else◌, Option, Some, None, Result, Ok, Err, is_some, ⊤}
use Rattle.std.specs.Str.{bytes_eq}
use Rattle.stun_base.specs.Credentials.{NameAndPassword}
use Rattle.stun_base.specs.Keys.{long_term_key}
use Rattle.stun_base.specs.declared.keys.algorithm.IntegrityAlgorithm.{IntegrityAlgorithm}
use Rattle.stun_base.specs.declared.keys.algorithm.IntegrityAlgorithm.TheVariants.{Sha1}
use Rattle.stun_judging.specs.Algorithms.{has}
use Rattle.stun_auth.specs.Client.{ClientSettings, Challenge}
use Rattle.stun_auth.specs.Client.{ClientState, initial, authenticating, authenticated}
use Rattle.stun_judging.specs.Feature.{is_possible, is_required}
use Rattle.stun_judging.specs.Nonces.{security_bits, asks_for_algorithms, asks_for_userhash}
use Rattle.stun_base.specs.MessageType.{is_success}
use Rattle.stun_judging.specs.Reading.{Reading, verified_under, UNAUTHORIZED, STALE_NONCE, is_code}
use Rattle.stun_judging.specs.declared.feature.Feature.{Feature}
use Rattle.stun_auth.specs.declared.client.challenge.ChallengeRefusal.{ChallengeRefusal}
use Rattle.stun_auth.specs.declared.client.challenge.ChallengeRefusal.TheVariants as Refused
use Rattle.stun_auth.specs.declared.client.answer.LongTermClientAuthErrorReason.{
  LongTermClientAuthErrorReason,
}
use Rattle.stun_auth.specs.declared.client.answer.LongTermClientAuthErrorReason.TheVariants.{
  Unauthorized,
  IntegrityFailed,
  UnsupportedFeature,
  OutOfMemory,
}
use Rattle.stun_auth.specs.declared.client.answer.LongTermClientValidation.{
  LongTermClientValidation,
}
use Rattle.stun_auth.specs.declared.client.answer.LongTermClientValidation.TheVariants.{
  ResendRequest,
  Validated,
}
use Rattle.stun_judging.specs.Naming.{naming_of}

-- the answer to a message
abbrev pub ClientAnswer : Type 0
ClientAnswer = Result LongTermClientValidation LongTermClientAuthErrorReason

-- the answer to a message, and the state after it
pub record ClientStep : Type 0 where
  pub answer : ClientAnswer
  pub state : ClientState

-- the first algorithm of the server's list that the client supports
abbrev pub first_supported : List IntegrityAlgorithm → List IntegrityAlgorithm
    → Option IntegrityAlgorithm
first_supported supported list = find (λ a. has a supported) list

-- a choice, or `UnsupportedFeature` if there is none
abbrev pub or_unsupported : Option IntegrityAlgorithm → Result IntegrityAlgorithm ChallengeRefusal
or_unsupported None = Err Refused.UnsupportedFeature
or_unsupported (Some algorithm) = Ok algorithm

-- the choice by the server's list. Without a list, the choice is HMAC-SHA1, but if the nonce asks
-- for a choice, the challenge is refused
abbrev pub choose_by_list : List IntegrityAlgorithm → Bool → Option (List IntegrityAlgorithm)
    → Result IntegrityAlgorithm ChallengeRefusal
choose_by_list supported asks (Some list) = or_unsupported (first_supported supported list)
choose_by_list supported asks None = if asks then Err Refused.Unauthorized else Ok Sha1

-- a choice, unless a required feature is missing
abbrev pub unless_missing : Bool → Result IntegrityAlgorithm ChallengeRefusal
    → Result IntegrityAlgorithm ChallengeRefusal
unless_missing missing (Err refusal) = Err refusal
unless_missing missing (Ok algorithm) =
    if missing then Err Refused.UnsupportedFeature else Ok algorithm

-- the choice for a nonce without security bits: HMAC-SHA1, unless the client does not support it,
-- or must hash its name
abbrev pub choose_without_bits : List IntegrityAlgorithm → Feature
    → Result IntegrityAlgorithm ChallengeRefusal
choose_without_bits supported feature =
    if is_required feature then Err Refused.UnsupportedFeature
    else if has Sha1 supported then Ok Sha1 else Err Refused.UnsupportedFeature

-- the algorithm that a client chooses, by the security bits of the nonce, if it has them, and by
-- the server's list, if there is one
abbrev pub choose : List IntegrityAlgorithm → Feature → List ℕ → Option (List IntegrityAlgorithm)
    → Result IntegrityAlgorithm ChallengeRefusal
choose supported feature nonce list =
    if is_some (security_bits nonce) then
    unless_missing (is_required feature && not (asks_for_userhash nonce))
    (choose_by_list supported (asks_for_algorithms nonce) list)
    else choose_without_bits supported feature

abbrev pub list_or_none : Option (List IntegrityAlgorithm) → List IntegrityAlgorithm
list_or_none None = []
list_or_none (Some list) = list

-- the challenge that is stored. The name is hashed if the nonce allows hashes and the client's
-- settings do too
abbrev pub new_challenge : Feature → NameAndPassword → List ℕ → List ℕ
    → Option (List IntegrityAlgorithm)
    → IntegrityAlgorithm → Challenge
new_challenge feature user realm nonce list algorithm = record {
  naming = naming_of (asks_for_userhash nonce && is_possible feature) user.username realm;
  realm = realm;
  nonce = nonce;
  algorithms = list_or_none list;
  algorithm = algorithm;
  key = long_term_key algorithm user.username realm user.password;
}

abbrev pub new_challenge_if : Feature → NameAndPassword → List ℕ → List ℕ
    → Option (List IntegrityAlgorithm)
    → Result IntegrityAlgorithm ChallengeRefusal → Result Challenge ChallengeRefusal
new_challenge_if feature user realm nonce list (Err refusal) = Err refusal
new_challenge_if feature user realm nonce list (Ok algorithm) =
    Ok (new_challenge feature user realm nonce list algorithm)

-- whether this is the challenge that the client is answering already
abbrev pub is_repeated : ClientState → List ℕ → List ℕ → Bool
is_repeated initial realm nonce = false
is_repeated (authenticating c) realm nonce = bytes_eq realm c.realm && bytes_eq nonce c.nonce
is_repeated (authenticated c) realm nonce = false

-- the challenge to store for this realm, nonce and list, or the reason to refuse it
abbrev pub taken_up : ClientSettings → ClientState → Option NameAndPassword → Option (List ℕ)
    → Option (List ℕ) → Option (List IntegrityAlgorithm) → Result Challenge ChallengeRefusal
taken_up s state None _ _ list = Err Refused.Unauthorized
taken_up s state (Some user) None _ list = Err Refused.Unauthorized
taken_up s state (Some user) (Some realm) None list = Err Refused.Unauthorized
taken_up s state (Some user) (Some realm) (Some nonce) list =
    if is_repeated state realm nonce then Err Refused.Unauthorized
    else new_challenge_if s.feature user realm nonce list (choose s.supported s.feature nonce list)

-- the reason of a refusal
abbrev pub client_reason : ChallengeRefusal → LongTermClientAuthErrorReason
client_reason Refused.Unauthorized = Unauthorized
client_reason Refused.UnsupportedFeature = UnsupportedFeature

-- the algorithm whose digest verifies under the stored key
abbrev pub verified_under_kept : ClientState → Reading → Option IntegrityAlgorithm
verified_under_kept initial r = None
verified_under_kept (authenticating c) r = verified_under r c.key
verified_under_kept (authenticated c) r = verified_under r c.key

abbrev pub after_challenge : ClientState → Option IntegrityAlgorithm
    → Result Challenge ChallengeRefusal
    → ClientStep
after_challenge state digest (Err refusal) =
    record { answer = Err (client_reason refusal); state = state }
after_challenge state digest (Ok c) =
    record { answer = Ok (ResendRequest digest); state = authenticating c }

abbrev pub is_authenticated : ClientState → Bool
is_authenticated initial = false
is_authenticated (authenticating c) = false
is_authenticated (authenticated c) = true

-- the state after a success response has confirmed that the server has the key
abbrev pub after_confirmation : ClientState → ClientState
after_confirmation initial = initial
after_confirmation (authenticating c) = authenticated c
after_confirmation (authenticated c) = authenticated c

-- the answer to a message that is judged by its digest alone. A success response confirms the
-- challenge that is being answered
abbrev pub after_digest : ClientState → Bool → Option IntegrityAlgorithm → ClientStep
after_digest state success None = record { answer = Err IntegrityFailed; state = state }
after_digest state success (Some algorithm) =
    record {
      answer = Ok (Validated algorithm);
      state = if success then after_confirmation state else state;
    }

-- the stored challenge with another realm and nonce, and the same key
abbrev pub with_realm_and_nonce : ClientState → List ℕ → List ℕ → ClientState
with_realm_and_nonce initial realm nonce = initial
with_realm_and_nonce (authenticating c) realm nonce =
    authenticating (record c { realm = realm; nonce = nonce })
with_realm_and_nonce (authenticated c) realm nonce =
    authenticated (record c { realm = realm; nonce = nonce })

-- the answer to a 438, and the state after it: realm and nonce are stored. If one of them is
-- missing, the 438 is judged by its digest alone
abbrev pub after_stale : ClientState → Option IntegrityAlgorithm → Option (List ℕ) → Option (List ℕ)
    → ClientStep
after_stale state digest (Some realm) (Some nonce) =
    record { answer = Ok (ResendRequest digest); state = with_realm_and_nonce state realm nonce }
after_stale state digest None _ = after_digest state false digest
after_stale state digest (Some realm) None = after_digest state false digest

-- the answer of a client to a message, and its state after it
abbrev pub client_step : ClientSettings → ClientState → Reading → ClientStep
client_step s state r =
    if is_code UNAUTHORIZED r.error && not (is_authenticated state) then
    after_challenge state (verified_under_kept state r)
    (taken_up s state s.credentials r.realm r.nonce r.algorithms)
    else if is_code STALE_NONCE r.error
    then after_stale state (verified_under_kept state r) r.realm r.nonce
    else after_digest state (is_success r.class) (verified_under_kept state r)

-- the answer says to send the request again. Only with such an answer does the client store
-- something new
abbrev pub IsResend : ClientAnswer → Type 0
IsResend (Ok (ResendRequest algorithm)) = ⊤
IsResend (Ok (Validated algorithm)) = ⊥
IsResend (Err reason) = ⊥

-- the first fact holds, or the second if an allocation fails
abbrev pub ForClientReason : LongTermClientAuthErrorReason → Type 0 → Type 0 → Type 0
ForClientReason Unauthorized P Q = P
ForClientReason IntegrityFailed P Q = P
ForClientReason UnsupportedFeature P Q = P
ForClientReason OutOfMemory P Q = Q

-- the first fact holds, or the second if the answer is that an allocation failed
abbrev pub ClientUnlessMemory : {V : Type 0} → Result V LongTermClientAuthErrorReason
    → Type 0 → Type 0
    → Type 0
ClientUnlessMemory (Ok value) P Q = P
ClientUnlessMemory (Err reason) P Q = ForClientReason reason P Q
