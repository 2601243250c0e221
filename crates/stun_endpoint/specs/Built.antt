-- Why no server can be built from some settings. A realm and a text of SOFTWARE have at most 763
-- bytes (RFC 8489, sections 14.9 and 14.14).
use Rattle.std.specs.Prelude.{ℕ, List, [], length, nat_lt, unwrap_or}
use Rattle.std.specs.Prelude.{if◌then◌else◌, Option, Some, None}
use Rattle.stun_types.specs.Limits.{TEXT_LIMIT}
use Rattle.stun_endpoint.specs.declared.server.settings.BuildError.{BuildError}
use Rattle.stun_endpoint.specs.declared.server.settings.BuildError.TheVariants.{RealmTooLong}
use Rattle.stun_endpoint.specs.declared.server.settings.BuildError.TheVariants.{SoftwareTooLong}
use Rattle.stun_endpoint.specs.declared.server.settings.BuildError.TheVariants.{NonceLifetime}

-- why no server is built: the first reason that applies. The RFC sets no lifetime of a nonce. The
-- shortest lifetime, 30 seconds, is a choice of this library
abbrev pub build_refusal : List ℕ → Option (List ℕ) → ℕ → Option BuildError
build_refusal realm software lifetime =
    if nat_lt TEXT_LIMIT (length realm) then Some RealmTooLong
    else if nat_lt TEXT_LIMIT (length (unwrap_or software [])) then Some SoftwareTooLong
    else if nat_lt lifetime 30 then Some NonceLifetime else None

-- why no server without a realm is built
abbrev pub software_refusal : Option (List ℕ) → Option BuildError
software_refusal software =
    if nat_lt TEXT_LIMIT (length (unwrap_or software [])) then Some SoftwareTooLong else None
