-- Why a request is refused, as a caller in C receives it (RFC 8489, sections 9.2.4 and 6.3.1).
use Rattle.std.specs.Prelude.{◌≡◌, ◌⊎◌, ℕ, ℤ, pos, List, ◌||◌, ◌==◌, not, nat_lt, Option, Some}
use Rattle.std.specs.Prelude.{None, if◌then◌else◌, Result, Ok, Err}
use Rattle.stun_judging.specs.Realm.{RealmSeen}
use Rattle.stun_endpoint.specs.Causes.{cause_for}
use Rattle.stun_endpoint.specs.Settings.{Settings}
use Rattle.stun_endpoint.specs.declared.server.causes.Cause.{Cause}
use Rattle.stun_endpoint.specs.declared.server.causes.Cause.TheVariants.{NoSignature, Incomplete}
use Rattle.stun_endpoint.specs.declared.server.causes.Cause.TheVariants.{OtherAlgorithms}
use Rattle.stun_endpoint.specs.declared.server.causes.Cause.TheVariants.{OtherFeatures, StaleNonce}
use Rattle.stun_endpoint.specs.declared.server.causes.Cause.TheVariants.{WrongCredentials}
use Rattle.stun_endpoint.specs.declared.server.causes.Cause.TheVariants.{UnknownAttribute}
use Rattle.std.specs.declared.net.socket_addr.SocketAddr.{SocketAddr}
use Rattle.stun_handles.specs.Addresses.{socket_address}
use Rattle.stun_handles.specs.Answers.{at_address}
use Rattle.stun_handles.specs.declared.address.Address.{Address}
use Rattle.stun_numbers.specs.Refusals.{refusal_number}
use Rattle.stun_numbers.specs.declared.refusal.Refusal.{Refusal}
use Rattle.stun_numbers.specs.declared.refusal.Refusal.TheVariants.{BadArgument, OutOfMemory}
use Rattle.stun_numbers.specs.declared.refusal.Refusal.TheVariants.{WrongHandle}
use Rattle.stun_c_endpoint.specs.Kept.{Judge, at_handle, by_realm, by_users, openly}
use Rattle.stun_c_endpoint.specs.Told.{LAST_SECOND, RECEIVED_SIZE}
use Rattle.stun_c_endpoint.specs.declared.handle.endpoint.Kept.{Kept}
use Rattle.stun_c_endpoint.specs.declared.handle.endpoint.Kept.TheVariants.{Checker, Client, Server}
use Rattle.stun_c_endpoint.specs.declared.handle.endpoint.Kept.TheVariants.{Open, ShortTerm, Users}
use Rattle.stun_c_endpoint.specs.declared.handle.endpoint.Kept.TheVariants.{ShortTermUsers}
use Rattle.stun_c_endpoint.specs.declared.received.Received.{Received}

-- a server with long-term credentials, and its users
pub record OfRealm : Type 0 where
  pub settings : Settings
  pub users : RealmSeen

-- the table of users, which must be one of a realm
abbrev pub with_table : Settings → Kept → Result OfRealm Refusal
with_table s (Users u) = Ok (record { settings = s; users = u })
with_table s (Server t) = Err WrongHandle
with_table s (Open t) = Err WrongHandle
with_table s (ShortTerm t) = Err WrongHandle
with_table s (ShortTermUsers t) = Err WrongHandle
with_table s (Checker t) = Err WrongHandle
with_table s (Client t) = Err WrongHandle

-- a server of another kind has no causes, and fails before the table is looked at
abbrev pub long_term_with : Option Kept → Kept → Result OfRealm Refusal
long_term_with users (Server s) = at_handle users (λ u. with_table s u)
long_term_with users (Users t) = Err WrongHandle
long_term_with users (Open t) = Err WrongHandle
long_term_with users (ShortTerm t) = Err WrongHandle
long_term_with users (ShortTermUsers t) = Err WrongHandle
long_term_with users (Checker t) = Err WrongHandle
long_term_with users (Client t) = Err WrongHandle

abbrev pub long_term_and_users : Option Kept → Option Kept → Result OfRealm Refusal
long_term_and_users server users = at_handle server (λ s. long_term_with users s)

-- the cause, given the values of two handles. Their errors come first, and then a time that is not
-- one of seconds, and an address that is not one
abbrev pub caused_at : Result OfRealm Refusal → Address → ℕ → List ℕ
    → Result (Option Cause) Refusal
caused_at (Err refusal) from seconds bytes = Err refusal
caused_at (Ok realm) from seconds bytes =
    if nat_lt LAST_SECOND seconds then Err BadArgument
    else at_address (socket_address from)
    (λ from. Ok (cause_for realm.settings (Some realm.users.registered) from seconds bytes))

-- the number of a cause, or 0 for none
abbrev pub cause_number : Option Cause → ℕ
cause_number None = 0
cause_number (Some NoSignature) = 1
cause_number (Some Incomplete) = 2
cause_number (Some OtherAlgorithms) = 3
cause_number (Some OtherFeatures) = 4
cause_number (Some StaleNonce) = 5
cause_number (Some WrongCredentials) = 6
cause_number (Some UnknownAttribute) = 7

-- ---- the cause besides the outcome of a datagram

-- the number of the cause, at a server with long-term credentials and with its users
abbrev pub cause_by : Settings → RealmSeen → Option SocketAddr → ℕ → List ℕ → ℕ
cause_by s u None seconds bytes = 0
cause_by s u (Some from) seconds bytes =
    cause_number (cause_for s (Some u.registered) from seconds bytes)

-- the number, given the values of two handles. Servers of other kinds have no causes, because their
-- codes say as much; nor has a datagram that is not judged (`outcome_at`)
abbrev pub cause_at : Result Judge Refusal → Address → ℕ → List ℕ → Received → ℕ
cause_at (Err refusal) from seconds bytes r = 0
cause_at (Ok (by_users s u)) from seconds bytes r = 0
cause_at (Ok (openly s)) from seconds bytes r = 0
cause_at (Ok (by_realm s u)) from seconds bytes r =
    if not (r.size == RECEIVED_SIZE) || nat_lt LAST_SECOND seconds then 0
    else cause_by s u (socket_address from) seconds bytes

-- a call writes the cause, or an allocation failed and it writes 0
abbrev pub IsCause : ℕ → ℤ → ℕ → Type 0
IsCause why result cause =
    (cause ≡ why) ⊎ ((result ≡ refusal_number OutOfMemory) × (cause ≡ 0))

-- ---- the cause alone

-- a call returns the number of the cause, or an allocation failed
abbrev pub CausedAs : Result (Option Cause) Refusal → ℤ → Type 0
CausedAs (Ok cause) result =
    (result ≡ pos (cause_number cause)) ⊎ (result ≡ refusal_number OutOfMemory)
CausedAs (Err refusal) result = result ≡ refusal_number refusal
