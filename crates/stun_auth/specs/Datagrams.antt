-- The outcome of a list of datagrams at a server that stores nothing about an address.
use Rattle.std.specs.Prelude.{◌≡◌, ◌↔◌, ◌⊎◌, ℕ, List, slice_get, true, Some}
use Rattle.std.specs.Str.{bytes_eq}
use Rattle.std.specs.declared.net.socket_addr.SocketAddr.{SocketAddr}
use Rattle.std.specs.declared.result.Result.{Result}
use Rattle.std.specs.declared.result.Result.TheVariants.{Ok}
use Rattle.stun_judging.specs.declared.refusal.VerdictRefusal.{VerdictRefusal}
use Rattle.stun_judging.specs.declared.refusal.VerdictRefusal.TheVariants.{BadRequest}
use Rattle.stun_auth.specs.Epochs.{IsAcceptedIn, judged_in, nonce_in}
use Rattle.stun_judging.specs.Reading.{reading_of, is_malformed}
use Rattle.stun_judging.specs.Verdict.{ClientSeen, their_nonce, told_refusal}
use Rattle.stun_auth.specs.Validation.{ServerSeen}

-- a datagram: its source, its time, and its bytes
pub record TimedDatagram : Type 0 where
  pub from : SocketAddr
  pub now : ℕ
  pub bytes : List ℕ

-- how nonces are made: the epoch of a time, and the words of an address in an epoch
pub record Derivation : Type 0 where
  pub epoch : ℕ → ℕ
  pub words : SocketAddr → ℕ → List ℕ

-- the nonce that is current for a datagram
abbrev pub nonce_for_datagram : ServerSeen → Derivation → TimedDatagram → List ℕ
nonce_for_datagram s how d = nonce_in s (how.words d.from) (how.epoch d.now)

-- the verdict on a datagram
abbrev pub judged_datagram : ServerSeen → Derivation → TimedDatagram
    → Result ClientSeen VerdictRefusal
judged_datagram s how d =
    judged_in s (how.words d.from) (how.epoch d.now) (reading_of d.bytes)

-- each datagram is judged alone
pub record JudgesEachDatagram (s : ServerSeen) (how : Derivation) (datagrams : List TimedDatagram)
    (given : List (Result ClientSeen VerdictRefusal)) : Type 0 where
  -- a client is accepted if and only if `IsAccepted` holds under one of the two nonces
  pub accepted : (i : ℕ) (d : TimedDatagram) (client : ClientSeen) → slice_get datagrams i ≡ Some d
      → (slice_get given i ≡ Some (Ok client))
      ↔ IsAcceptedIn s (how.words d.from) (how.epoch d.now) (reading_of d.bytes) client
  -- a client that repeats what it was once sent never gets a bad request for it
  pub no_lockout : (d : TimedDatagram) (refusal : VerdictRefusal)
      → told_refusal (nonce_for_datagram s how d) (reading_of d.bytes) refusal ≡ BadRequest
      → (is_malformed (reading_of d.bytes) ≡ true)
      ⊎ (bytes_eq (their_nonce (reading_of d.bytes)) (nonce_for_datagram s how d) ≡ true)
