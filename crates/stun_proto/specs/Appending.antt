-- A message in place of another that agrees with it up to its deciding integrity attribute (RFC
-- 8489, sections 14.5 to 14.7): whoever appends to a signed request changes no reply and nothing
-- that is kept, unless a MESSAGE-INTEGRITY-SHA256 is appended after a MESSAGE-INTEGRITY.
use Rattle.std.specs.Prelude.{◌≡◌, ℕ, List, ◌∷◌, ◌++◌, None}
use Rattle.std.specs.declared.alloc.Global.{Global}
use Rattle.std.specs.declared.net.socket_addr.SocketAddr.{SocketAddr}
use Rattle.std.specs.declared.vec.Vec.{Vec}
use Rattle.stun_types.specs.Message.{refusal}
use Rattle.stun_types.specs.Tail.{AgreeUpToIntegrity, IsContinuedAnew}
use Rattle.stun_types.specs.Walk.{Member}
use Rattle.stun_auth.specs.Validation.{ServerSeen}
use Rattle.stun_proto.specs.declared.replay.call.ServerCall.{ServerCall}
use Rattle.stun_proto.specs.declared.replay.call.ServerCall.TheVariants.{Validate}
use Rattle.stun_proto.specs.Serving.{after_call, after_calls, replies, reply}

-- a server answers two messages alike, and is the same after either
pub record AreAnsweredAlike (message other : Vec ℕ Global) : Type 0 where
  -- one call, whatever the server, address, time and words: the same reply, and the same server
  -- after it with the record of the address
  pub replied : (s : ServerSeen) (from : SocketAddr) (now : ℕ) (words : List ℕ)
      → reply s (Validate from now message words) ≡ reply s (Validate from now other words)
  pub kept : (s : ServerSeen) (from : SocketAddr) (now : ℕ) (words : List ℕ)
      → after_call s (Validate from now message words)
      ≡ after_call s (Validate from now other words)
  -- any run with one in place of the other: the same replies to all calls, and the same server
  -- after them
  pub run_replied : (s : ServerSeen) (earlier later : List ServerCall) (from : SocketAddr) (now : ℕ)
      (words : List ℕ)
      → replies s (earlier ++ Validate from now message words ∷ later)
      ≡ replies s (earlier ++ Validate from now other words ∷ later)
  pub run_kept : (s : ServerSeen) (earlier later : List ServerCall) (from : SocketAddr) (now : ℕ)
      (words : List ℕ)
      → after_calls s (earlier ++ Validate from now message words ∷ later)
      ≡ after_calls s (earlier ++ Validate from now other words ∷ later)

-- this applies to messages that agree up to their deciding attribute
abbrev pub AgreeingAreAnsweredAlike : Type 0
AgreeingAreAnsweredAlike =
    (message other : Vec ℕ Global) → refusal message.items ≡ None → refusal other.items ≡ None
    → AgreeUpToIntegrity message.items other.items → AreAnsweredAlike message other

-- and to a message that continues in any way after the other's deciding attribute, unless it then
-- shows a stronger one
abbrev pub ContinuedAreAnsweredAlike : Type 0
ContinuedAreAnsweredAlike =
    (message other : Vec ℕ Global) (m : Member) → refusal message.items ≡ None
    → refusal other.items ≡ None → IsContinuedAnew message.items other.items m
    → AreAnsweredAlike message other
