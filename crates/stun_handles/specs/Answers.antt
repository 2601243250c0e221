-- What calls share: an address that may be invalid, and texts.
use Rattle.std.specs.Prelude.{ℕ, List, ◌&&◌, if◌then◌else◌, Option, Some, None, Result, Err}
use Rattle.std.specs.Str.{is_utf8}
use Rattle.std.specs.declared.net.socket_addr.SocketAddr.{SocketAddr}
use Rattle.stun_numbers.specs.declared.refusal.Refusal.{Refusal}
use Rattle.stun_numbers.specs.declared.refusal.Refusal.TheVariants.{BadArgument, NotText}

-- a result about an address, unless the address that was passed is invalid
abbrev pub at_address : {V : Type 0} → Option SocketAddr → (SocketAddr → Result V Refusal)
    → Result V Refusal
at_address None answer = Err BadArgument
at_address (Some address) answer = answer address

-- why a text is refused, and why two are
abbrev pub text_refusal : List ℕ → Option Refusal
text_refusal text = if is_utf8 text then None else Some NotText

abbrev pub texts_refusal : List ℕ → List ℕ → Option Refusal
texts_refusal name password = if is_utf8 name && is_utf8 password then None else Some NotText
