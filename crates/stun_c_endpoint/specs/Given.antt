-- The settings of a server as a caller in C passes them, and the server that is built from them.
use Rattle.std.specs.Prelude.{◌≡◌, ℕ, ℤ, pos, MatchOption, List, ◌++◌, Bool, ◌&&◌, ◌||◌, ◌==◌, not, length, nat_lt}
use Rattle.std.specs.Prelude.{if◌then◌else◌, Option, Some, None, IfNone, IfSome, false}
use Rattle.std.specs.Prelude.{replicate, slice_index}
use Rattle.std.specs.Str.{bytes_eq, is_utf8}
use Rattle.stun_types.specs.Limits.{TEXT_LIMIT}
use Rattle.stun_extra.specs.Unknown.{types_of}
use Rattle.stun_judging.specs.declared.algorithm_set.AlgorithmSet.{AlgorithmSet}
use Rattle.stun_judging.specs.declared.algorithm_set.AlgorithmSet.TheVariants.{OnlySha1}
use Rattle.stun_judging.specs.declared.algorithm_set.AlgorithmSet.TheVariants.{OnlySha256, Both}
use Rattle.stun_endpoint.specs.Realm.{feature_for}
use Rattle.stun_endpoint.specs.Responding.{Responding}
use Rattle.stun_endpoint.specs.Settings.{Settings}
use Rattle.stun_endpoint.specs.declared.server.settings.TheConstants.{STUN_ATTRIBUTES}
use Rattle.stun_handles.specs.Numbers.{OrOutOfMemory}
use Rattle.stun_numbers.specs.Refusals.{refusal_number}
use Rattle.stun_numbers.specs.declared.refusal.Refusal.{Refusal}
use Rattle.stun_numbers.specs.declared.refusal.Refusal.TheVariants.{BadArgument, FullHandle}
use Rattle.stun_numbers.specs.declared.refusal.Refusal.TheVariants.{NotText, TextTooLong}
use Rattle.stun_c_endpoint.specs.declared.handle.endpoint.Kept.{Kept}
use Rattle.stun_c_endpoint.specs.declared.handle.endpoint.Kept.TheVariants.{Open, Server, ShortTerm}

-- the arguments of a caller: texts and keys as bytes, and types, algorithms and the feature as
-- numbers
pub record Given : Type 0 where
  pub realm : List ℕ
  pub software : List ℕ
  pub secret : List ℕ
  pub previous_secret : Option (List ℕ)
  pub understood : List ℕ
  pub nonce_seconds : ℕ
  pub algorithms : ℕ
  pub anonymous_username : ℕ
  pub answers_binding : Bool
  pub requires_fingerprint : Bool

-- for how many seconds a nonce is sent: an hour, unless another time is passed
abbrev pub nonce_seconds : ℕ → ℕ
nonce_seconds seconds = if seconds == 0 then 3600 else seconds

-- the algorithms that a number stands for: 1 is HMAC-SHA1, 2 is HMAC-SHA256, 0 and 3 are both
abbrev pub algorithms_given : ℕ → AlgorithmSet
algorithms_given number =
    if number == 1 then OnlySha1 else if number == 2 then OnlySha256 else Both

-- whether 32 bytes are one byte that is repeated, and so are not random
abbrev pub is_repeated : List ℕ → Bool
is_repeated bytes = bytes_eq bytes (replicate 32 (slice_index bytes 0))

-- whether a previous secret is one that was never in use
abbrev pub is_wrong_previous : List ℕ → Option (List ℕ) → Bool
is_wrong_previous secret None = false
is_wrong_previous secret (Some previous) = is_repeated previous || bytes_eq previous secret

-- the longest time in seconds for which a nonce is sent: 30 days
abbrev pub LONGEST_NONCE_LIFETIME : ℕ
LONGEST_NONCE_LIFETIME = 2592000

-- whether a number is out of range
abbrev pub is_out_of_range : Given → Bool
is_out_of_range g =
    nat_lt 3 g.algorithms || (nat_lt 2 g.anonymous_username
    || (nat_lt (nonce_seconds g.nonce_seconds) 30
    || nat_lt LONGEST_NONCE_LIFETIME (nonce_seconds g.nonce_seconds)))

-- whether a secret is not accepted
abbrev pub is_wrong_secret : Given → Bool
is_wrong_secret g = is_repeated g.secret || is_wrong_previous g.secret g.previous_secret

-- why no server is built: the first reason that applies. A realm without bytes is one that was never
-- set
unfoldable pub given_refusal : Given → Option Refusal
given_refusal g =
    if is_out_of_range g || (is_wrong_secret g || (length g.realm == 0)) then Some BadArgument
    else if not (is_utf8 g.realm && is_utf8 g.software) then Some NotText
    else if nat_lt TEXT_LIMIT (length g.realm) || nat_lt TEXT_LIMIT (length g.software)
    then Some TextTooLong
    else None

-- a text that is passed, if it has bytes
abbrev pub if_any : List ℕ → Option (List ℕ)
if_any bytes = if length bytes == 0 then None else Some bytes

-- the server that is built from these arguments
abbrev pub server_given : Given → Settings
server_given g = record {
  realm = g.realm;
  algorithms = algorithms_given g.algorithms;
  feature = feature_for (not (g.anonymous_username == 2));
  secret = g.secret;
  previous = g.previous_secret;
  lifetime = nonce_seconds g.nonce_seconds;
  known = types_of g.understood ++ STUN_ATTRIBUTES;
  software = if_any g.software;
  answers_binding = g.answers_binding;
  requires_fingerprint = g.requires_fingerprint;
}

-- the arguments of a caller for a server without a realm
pub record GivenAlone : Type 0 where
  pub software : List ℕ
  pub understood : List ℕ
  pub answers_binding : Bool
  pub requires_fingerprint : Bool

-- why no such server is built: the first reason that applies
abbrev pub alone_refusal : GivenAlone → Option Refusal
alone_refusal g =
    if not (is_utf8 g.software) then Some NotText
    else if nat_lt TEXT_LIMIT (length g.software) then Some TextTooLong
    else None

-- the server that is built from these arguments, with short-term credentials or without credentials
abbrev pub responding_given : GivenAlone → Responding
responding_given g = record {
  known = types_of g.understood ++ STUN_ATTRIBUTES;
  software = if_any g.software;
  answers_binding = g.answers_binding;
  requires_fingerprint = g.requires_fingerprint;
}

-- a call with a handle that has a value fails, and leaves the value
abbrev pub LeavesFull : Option Kept → Option Kept → ℤ → Type 0
LeavesFull before now result =
    IfSome before (λ kept. (result ≡ refusal_number FullHandle) × (now ≡ Some kept))

-- a call that fills a handle without a value: its result, and the handle after it
pub record Fills (before now : Option Kept) (result : ℤ) (Made : ℤ → Option Kept → Type 0)
    : Type 0 where
  pub full : LeavesFull before now result
  pub made : IfNone before (Made result now)

-- a call builds a server in an empty handle and returns 0, or returns the first error; or an
-- allocation failed
abbrev pub Makes : Option Refusal → Kept → ℤ → Option Kept → Type 0
Makes refused made result now =
    MatchOption refused (OrOutOfMemory result None now (pos 0) (Some made))
    (λ refusal. (result ≡ refusal_number refusal) × (now ≡ None))

-- a call does so for a server with short-term credentials
abbrev pub MakesShortTerm : GivenAlone → ℤ → Option Kept → Type 0
MakesShortTerm g result now = Makes (alone_refusal g) (ShortTerm (responding_given g)) result now

-- a call does so for a server without credentials
abbrev pub MakesOpen : GivenAlone → ℤ → Option Kept → Type 0
MakesOpen g result now = Makes (alone_refusal g) (Open (responding_given g)) result now

-- a call does so for a server with long-term credentials
abbrev pub MakesServer : Given → ℤ → Option Kept → Type 0
MakesServer g result now = Makes (given_refusal g) (Server (server_given g)) result now
