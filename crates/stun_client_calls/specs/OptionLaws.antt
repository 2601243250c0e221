-- What follows from the options of a request, for a caller (RFC 8489, sections 6.3 and 9).
use Rattle.std.specs.Prelude.{◌≡◌, ℕ, Bool, true, false, not, List, Option, None, Some}
use Rattle.std.specs.declared.net.socket_addr.SocketAddr.{SocketAddr}
use Rattle.stun_extra.specs.CanonicalAddress.{is_same_address}
use Rattle.stun_client.specs.Challenges.{Answered}
use Rattle.stun_client.specs.Ids.{id_of}
use Rattle.stun_client.specs.Judging.{unsigned}
use Rattle.stun_client_endpoint.specs.Bodies.{Body}
use Rattle.stun_client_endpoint.specs.Written.{request_bytes}
use Rattle.stun_client_endpoint.specs.declared.told.Received.TheVariants.{NotOurs}
use Rattle.stun_client_calls.specs.Clients.{Client, address_for, first_asked, first_message}
use Rattle.stun_client_calls.specs.Endpoints.{EndSeen}
use Rattle.stun_client_calls.specs.Laws.{IsAnswerOrDrop}
use Rattle.stun_client_calls.specs.Options.{Options}
use Rattle.stun_client_calls.specs.Receiving.{Memory, Met, answered_by, answered_in, decision_for}
use Rattle.stun_client_calls.specs.Receiving.{received}

-- whether the options of a request say that it is not signed
abbrev pub is_unsigned : Option Options → Bool
is_unsigned None = false
is_unsigned (Some o) = not o.is_signed

-- a request that is not signed is written like a request of a client without credentials: without
-- USERNAME, USERHASH, REALM, NONCE and a signature
abbrev pub IsWrittenUnsigned : Type 0
IsWrittenUnsigned = (c : Client) (method number : ℕ) (body : Body) (options : Option Options)
    → is_unsigned options ≡ true
    → first_message c method number body options
    ≡ request_bytes c.form unsigned None method (id_of c.seed number) body

-- a request that is not signed is signed for no challenge
abbrev pub StartsUnsigned : Type 0
StartsUnsigned = (c : Client) (method : ℕ) (body : Body) (options : Option Options) (now : ℕ)
    → is_unsigned options ≡ true
    → ◌≡◌ {A = Option Answered} (first_asked c method body options now).signed_for None

-- a response to a request that is not signed ends the request or is dropped: no challenge is
-- answered, and no other message of the request is sent
abbrev pub IsNotSentOtherwise : Type 0
IsNotSentOtherwise = (c : Client) (now : ℕ) (bytes : List ℕ) (m : Met)
    → is_unsigned m.asked.options ≡ true → IsAnswerOrDrop (decision_for c now bytes m)

-- a response to a message that is signed for no challenge confirms none
abbrev pub ConfirmsNothing : Type 0
ConfirmsNothing = (c : Client) (now : ℕ) (bytes : List ℕ) (m : Met) (end : EndSeen)
    → m.signed_for ≡ None → (answered_by c now bytes m end).1.standing ≡ c.standing

-- a response to a request changes nothing if it does not come from the address that answers the
-- request
abbrev pub IsNotHeardElsewhere : Type 0
IsNotHeardElsewhere = (memory : Memory) (from : SocketAddr) (bytes : List ℕ) (now : ℕ) (c : Client)
    (m : Met) → answered_in bytes c ≡ Some m → is_same_address from (address_for c m.asked) ≡ false
    → received memory from bytes now c ≡ (NotOurs, c)
