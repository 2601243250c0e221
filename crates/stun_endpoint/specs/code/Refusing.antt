-- How the code finds the cause of a refusal: by the refusal under the nonces of the server, and by
-- the verdict under the empty nonce, which no client is ever sent.
use Rattle.std.specs.Prelude.{ℕ, List, [], Bool, true, false, ◌||◌, if◌then◌else◌, Option, Some}
use Rattle.std.specs.Prelude.{None}
use Rattle.std.specs.Str.{bytes_eq}
use Rattle.std.specs.declared.result.Result.{Result}
use Rattle.std.specs.declared.result.Result.TheVariants.{Ok, Err}
use Rattle.stun_judging.specs.Verdict.{told_refusal, ClientSeen, their_nonce, verdict_offering}
use Rattle.stun_judging.specs.Reading.{Reading, is_malformed}
use Rattle.stun_judging.specs.declared.refusal.VerdictRefusal.{VerdictRefusal}
use Rattle.stun_judging.specs.declared.refusal.VerdictRefusal.TheVariants as refused
use Rattle.stun_endpoint.specs.Received.{Outcome, answered, dropped, indicated}
use Rattle.stun_endpoint.specs.Received.{requested, responded}
use Rattle.stun_endpoint.specs.Settings.{Settings, registered_of}
use Rattle.stun_endpoint.specs.declared.received.Refusal.{Refusal}
use Rattle.stun_endpoint.specs.declared.received.Refusal.TheVariants as told
use Rattle.stun_endpoint.specs.declared.server.causes.Cause.{Cause}
use Rattle.stun_endpoint.specs.declared.server.causes.Cause.TheVariants.{NoSignature, Incomplete}
use Rattle.stun_endpoint.specs.declared.server.causes.Cause.TheVariants.{OtherAlgorithms}
use Rattle.stun_endpoint.specs.declared.server.causes.Cause.TheVariants.{OtherFeatures, StaleNonce}
use Rattle.stun_endpoint.specs.declared.server.causes.Cause.TheVariants.{WrongCredentials}
use Rattle.stun_endpoint.specs.declared.server.causes.Cause.TheVariants.{UnknownAttribute}

-- whether a verdict says that the request is unauthorized
abbrev pub is_unauthorized : Result ClientSeen VerdictRefusal → Bool
is_unauthorized (Ok client) = false
is_unauthorized (Err refused.Unauthorized) = true
is_unauthorized (Err refused.BadRequest) = false
is_unauthorized (Err refused.StaleNonce) = false

-- the verdict under the empty nonce, at a server without users
abbrev pub verdict_under_none : Settings → Reading → Result ClientSeen VerdictRefusal
verdict_under_none s r = verdict_offering (registered_of s) s.feature [] s.algorithms r

-- the cause of a bad request
abbrev pub bad_cause : Reading → Cause
bad_cause r =
    if is_malformed r || bytes_eq (their_nonce r) [] then Incomplete else OtherAlgorithms

-- the cause if the request is unauthorized
abbrev pub unauthorized_cause : Settings → List ℕ → Reading → Cause
unauthorized_cause s ours r =
    if is_unauthorized (verdict_under_none s r) then NoSignature
    else if bytes_eq (their_nonce r) ours then WrongCredentials
    else OtherFeatures

-- the cause of the refusal that a client is sent
abbrev pub cause_told : Settings → List ℕ → Reading → VerdictRefusal → Cause
cause_told s ours r refused.Unauthorized = unauthorized_cause s ours r
cause_told s ours r refused.StaleNonce = StaleNonce
cause_told s ours r refused.BadRequest = bad_cause r

-- the cause of a refusal
abbrev pub cause_by_refusal : Settings → List ℕ → Reading → VerdictRefusal → Cause
cause_by_refusal s ours r refusal = cause_told s ours r (told_refusal ours r refusal)

-- the cause if a request is refused after it was accepted, because of its attributes
abbrev pub unknown_among : Option Refusal → Option Cause
unknown_among None = None
unknown_among (Some told.UnknownAttribute) = Some UnknownAttribute
unknown_among (Some told.BadRequest) = None
unknown_among (Some told.Unauthenticated) = None
unknown_among (Some told.StaleNonce) = None

abbrev pub unknown_in : Outcome → Option Cause
unknown_in (answered answer) = unknown_among answer.refusal
unknown_in (requested request) = None
unknown_in (indicated message) = None
unknown_in (responded message) = None
unknown_in (dropped why) = None
