-- Why a server with long-term credentials refuses a request: the first check that the request
-- fails, in the order of the RFC (RFC 8489, sections 9.2.4 and 6.3.1), with two exceptions. The
-- nonce is checked before the user. Algorithms that do not agree, with a nonce that is not the
-- current one, count as a stale nonce, because the response is then a 438.
use Rattle.std.specs.Prelude.{ℕ, List, Bool, not, ◌&&◌, ◌||◌, if◌then◌else◌, Option, Some, None}
use Rattle.std.specs.Option.{is_none, is_some, option_map}
use Rattle.std.specs.Str.{bytes_eq}
use Rattle.std.specs.declared.net.socket_addr.SocketAddr.{SocketAddr}
use Rattle.stun_base.specs.MessageType.{class_in}
use Rattle.stun_base.specs.declared.wire.message_type.MessageClass.{MessageClass}
use Rattle.stun_base.specs.declared.wire.message_type.MessageClass.TheVariants.{Request}
use Rattle.stun_base.specs.declared.wire.message_type.MessageClass.TheVariants.{Indication}
use Rattle.stun_base.specs.declared.wire.message_type.MessageClass.TheVariants.{Success, Error}
use Rattle.stun_judging.specs.Nonces.{security_bits}
use Rattle.stun_judging.specs.Reading.{Reading, reading_of, is_complete}
use Rattle.stun_judging.specs.Registered.{Registered}
use Rattle.stun_judging.specs.Verdict.{agreement_offering, bits_differ, their_nonce, verified_named}
use Rattle.stun_extra.specs.Unknown.{unknown_types}
use Rattle.stun_endpoint.specs.Judged.{Realm, has_other_realm, realm_of_user}
use Rattle.stun_endpoint.specs.Lookups.{accepted_nonces, has_one_of}
use Rattle.stun_endpoint.specs.Nonces.{current_nonce, epoch_of}
use Rattle.stun_endpoint.specs.Received.{Outcome, answered, dropped, indicated, requested, responded}
use Rattle.stun_endpoint.specs.Refusals.{code_of}
use Rattle.stun_endpoint.specs.Responding.{drop_reason, is_empty}
use Rattle.stun_endpoint.specs.Settings.{Settings}
use Rattle.stun_endpoint.specs.declared.server.causes.Cause.{Cause}
use Rattle.stun_endpoint.specs.declared.server.causes.Cause.TheVariants.{NoSignature, Incomplete}
use Rattle.stun_endpoint.specs.declared.server.causes.Cause.TheVariants.{OtherAlgorithms}
use Rattle.stun_endpoint.specs.declared.server.causes.Cause.TheVariants.{OtherFeatures, StaleNonce}
use Rattle.stun_endpoint.specs.declared.server.causes.Cause.TheVariants.{WrongCredentials}
use Rattle.stun_endpoint.specs.declared.server.causes.Cause.TheVariants.{UnknownAttribute}

-- the code of the response to a request that is refused for a cause
abbrev pub code_of_cause : Cause → ℕ
code_of_cause NoSignature = 401
code_of_cause Incomplete = 400
code_of_cause OtherAlgorithms = 400
code_of_cause OtherFeatures = 401
code_of_cause StaleNonce = 438
code_of_cause WrongCredentials = 401
code_of_cause UnknownAttribute = 420

-- ---- the checks

-- whether PASSWORD-ALGORITHMS and PASSWORD-ALGORITHM agree with what was offered
abbrev pub is_agreed : Realm → Reading → Bool
is_agreed realm r = is_some (agreement_offering realm.offered r)

-- whether both nonces have security bits, and the bits differ
abbrev pub has_other_bits : List ℕ → Reading → Bool
has_other_bits ours r = bits_differ (security_bits ours) (security_bits (their_nonce r))

-- whether the request is signed with the key of the user whom it names
abbrev pub is_signed_by_user : Realm → Reading → Bool
is_signed_by_user realm r =
    is_some
    (verified_named realm.users realm.feature r (agreement_offering realm.offered r))

-- whether the nonce is the current one
abbrev pub is_current : Settings → SocketAddr → ℕ → Reading → Bool
is_current s from now r = bytes_eq (their_nonce r) (current_nonce s from now)

-- whether the nonce is still valid. The current nonce is. The other nonces that the server accepts
-- are valid only in a request that a user has signed: if the signature is wrong, the client learns
-- the current nonce from a 438
abbrev pub is_valid_still : Settings → Realm → SocketAddr → ℕ → Reading → Bool
is_valid_still s realm from now r =
    is_current s from now r
    || (has_one_of r (accepted_nonces s from (epoch_of s now)) && is_signed_by_user realm r)

-- ---- the first check that fails

-- the reason why credentials are refused. A list of algorithms that was sent with a nonce that is
-- no longer the current one is as stale as that nonce
abbrev pub credential_cause : Settings → Realm → SocketAddr → ℕ → Reading → Option Cause
credential_cause s realm from now r =
    if is_none r.integrity then Some NoSignature
    else if not (is_complete r) then Some Incomplete
    else if not (is_agreed realm r)
    then Some (if is_current s from now r then OtherAlgorithms else StaleNonce)
    else if has_other_bits (current_nonce s from now) r then Some OtherFeatures
    else if not (is_valid_still s realm from now r) then Some StaleNonce
    else if not (is_signed_by_user realm r) then Some WrongCredentials
    else None

-- or else why the attributes are refused
abbrev pub or_unknown : Settings → List ℕ → Option Cause → Option Cause
or_unknown s bytes (Some cause) = Some cause
or_unknown s bytes None =
    if is_empty (unknown_types s.known bytes) then None else Some UnknownAttribute

-- only requests are refused
abbrev pub cause_by_class : Settings → Realm → SocketAddr → ℕ → List ℕ → MessageClass
    → Option Cause
cause_by_class s realm from now bytes Request =
    or_unknown s bytes (credential_cause s realm from now (reading_of bytes))
cause_by_class s realm from now bytes Indication = None
cause_by_class s realm from now bytes Success = None
cause_by_class s realm from now bytes Error = None

-- why a datagram is refused, if it is a request that is refused
abbrev pub cause_of : Settings → Realm → SocketAddr → ℕ → List ℕ → Option Cause
cause_of s realm from now bytes =
    if is_some (drop_reason s.requires_fingerprint bytes) then None
    else cause_by_class s realm from now bytes (class_in bytes)

-- why a server refuses a datagram if it is passed a table of users, one user, or nobody. With users
-- of another realm it refuses nothing, because it drops each datagram
abbrev pub cause_for : Settings → Option Registered → SocketAddr → ℕ → List ℕ → Option Cause
cause_for s users from now bytes =
    if has_other_realm s users then None else cause_of s (realm_of_user s users) from now bytes

-- ---- the response

-- the code of the response that refuses a request, if that is the outcome
abbrev pub refused_code : Outcome → Option ℕ
refused_code (answered answer) = option_map code_of answer.refusal
refused_code (requested request) = None
refused_code (indicated message) = None
refused_code (responded message) = None
refused_code (dropped why) = None
