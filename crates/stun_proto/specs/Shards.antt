-- Servers that share the addresses among them, for when one machine can no longer serve all.
use Rattle.std.specs.Prelude.{◌≡◌, ℕ, ◌==◌, List, [], ◌∷◌, Bool, true, if◌then◌else◌}
use Rattle.std.specs.declared.net.socket_addr.SocketAddr.{SocketAddr}
use Rattle.stun_auth.specs.Validation.{ServerSeen, sight}
use Rattle.stun_proto.specs.declared.replay.call.ServerCall.{ServerCall}
use Rattle.stun_proto.specs.declared.replay.call.ServerCall.TheVariants as Call
use Rattle.stun_proto.specs.Isolation.{own_replies}
use Rattle.stun_proto.specs.Serving.{after_calls, replies}

-- whether the server with this number takes a call: one of an address that is dealt to it, or one
-- that concerns every address
abbrev pub is_shard_call : (SocketAddr → ℕ) → ℕ → ServerCall → Bool
is_shard_call deal k (Call.Validate from now message words) = deal from == k
is_shard_call deal k (Call.Sign to message) = deal to == k
is_shard_call deal k (Call.AddUser name password) = true
is_shard_call deal k (Call.RemoveUser name) = true
is_shard_call deal k (Call.AddIntegrity algorithm) = true
is_shard_call deal k (Call.SetIntegrity algorithm) = true
is_shard_call deal k (Call.SetAnonymous feature) = true
is_shard_call deal k (Call.RemoveClient address) = deal address == k
is_shard_call deal k (Call.SetExpiry expiry) = true
is_shard_call deal k (Call.ForgetExpired now) = true
is_shard_call deal k (Call.Forget address) = deal address == k

-- the calls that it takes, in their order
abbrev pub shard_calls : (SocketAddr → ℕ) → ℕ → List ServerCall → List ServerCall
shard_calls deal k [] = []
shard_calls deal k (call ∷ calls) =
    if is_shard_call deal k call then call ∷ shard_calls deal k calls else shard_calls deal k calls

-- each server begins with what one server of all addresses would keep for those that are dealt to
-- it
abbrev pub StartAlike : (SocketAddr → ℕ) → (ℕ → ServerSeen) → ServerSeen → Type 0
StartAlike deal servers one = (a : SocketAddr) → sight (servers (deal a)) a ≡ sight one a

-- what an address gets from its server is what one server that takes all calls would give it
pub record ServesAsOne (deal : SocketAddr → ℕ) (servers : ℕ → ServerSeen) (one : ServerSeen)
    (calls : List ServerCall) (a : SocketAddr) : Type 0 where
  -- the replies
  pub replied : own_replies a (shard_calls deal (deal a) calls)
      (replies (servers (deal a)) (shard_calls deal (deal a) calls))
      ≡ own_replies a calls (replies one calls)
  -- and what is kept for it, so that the next calls get the same replies
  pub kept : sight (after_calls (servers (deal a)) (shard_calls deal (deal a) calls)) a
      ≡ sight (after_calls one calls) a

-- each address is served so, however addresses are dealt out and to however many servers
abbrev pub ShardsServeAsOne : Type 0
ShardsServeAsOne =
    (deal : SocketAddr → ℕ) (servers : ℕ → ServerSeen) (one : ServerSeen) (calls : List ServerCall)
    → StartAlike deal servers one → (a : SocketAddr) → ServesAsOne deal servers one calls a
