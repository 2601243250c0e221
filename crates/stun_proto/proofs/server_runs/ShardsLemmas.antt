-- A server of some addresses takes each call that concerns one of them, so the run of that address
-- is the same.
use Rattle.std.proofs.Common.{◌≡◌, ℕ, List, [], ◌∷◌, true, false, refl, sym, ◌∙◌, ap}
use Rattle.std.specs.Prelude.{cond, ◌==◌}
use Rattle.std.proofs.lemmas.Bool.{eq-eqb}
use Rattle.std.specs.declared.net.socket_addr.SocketAddr.{SocketAddr}
use Rattle.stun_auth.specs.Validation.{sight}
use Rattle.stun_proto.specs.Isolation.{concerns, own_calls, sight_over}
use Rattle.stun_proto.specs.Serving.{replies}
use Rattle.stun_proto.specs.Shards.{ShardsServeAsOne, shard_calls, is_shard_call}
use Rattle.stun_proto.specs.declared.replay.call.ServerCall.{ServerCall}
use Rattle.stun_proto.specs.declared.replay.call.ServerCall.TheVariants as Call
use Rattle.stun_proto.proofs.server_runs.IsolationLemmas.{is_isolated, isolated_from}
use Rattle.stun_proto.proofs.server_runs.IsolationLemmas.{one_address, sight-after_calls}

dealt : (deal : SocketAddr → ℕ) (from a : SocketAddr) → from ≡ a → (deal from == deal a) ≡ true
dealt deal from a same = ap (λ b. deal b == deal a) same ∙ eq-eqb (deal a) (deal a) refl

-- a call that concerns an address is taken by its server
taken : (deal : SocketAddr → ℕ) (a : SocketAddr) (call : ServerCall) → concerns a call ≡ true
    → is_shard_call deal (deal a) call ≡ true
taken deal a (Call.Validate from now message words) h = dealt deal from a (one_address from a h)
taken deal a (Call.Sign to message) h = dealt deal to a (one_address to a h)
taken deal a (Call.AddUser name password) h = refl
taken deal a (Call.RemoveUser name) h = refl
taken deal a (Call.AddIntegrity algorithm) h = refl
taken deal a (Call.SetIntegrity algorithm) h = refl
taken deal a (Call.SetAnonymous feature) h = refl
taken deal a (Call.RemoveClient address) h = dealt deal address a (one_address address a h)
taken deal a (Call.SetExpiry expiry) h = refl
taken deal a (Call.ForgetExpired now) h = refl
taken deal a (Call.Forget address) h = dealt deal address a (one_address address a h)

-- so the address has the same calls of its own there
own_share : (deal : SocketAddr → ℕ) (a : SocketAddr) (calls : List ServerCall)
    → own_calls a (shard_calls deal (deal a) calls) ≡ own_calls a calls
own_share deal a [] = refl
own_share deal a (call ∷ calls) =
    elim (is_shard_call deal (deal a) call) as (λ b. is_shard_call deal (deal a) call ≡ b
    → own_calls a
    (cond b (call ∷ shard_calls deal (deal a) calls) (shard_calls deal (deal a) calls))
    ≡ own_calls a (call ∷ calls)) [
      | true ↦ λ is. ap (λ rest. cond (concerns a call) (call ∷ rest) rest) (own_share deal a calls)
      | false ↦ λ is.
          elim (concerns a call) as (λ b. concerns a call ≡ b
          → own_calls a (shard_calls deal (deal a) calls)
          ≡ cond b (call ∷ own_calls a calls) (own_calls a calls)) [
            | true ↦ λ own_call.
                absurd (let clash : true ≡ false = sym (taken deal a call own_call) ∙ is in cc)
            | false ↦ λ other. own_share deal a calls
          ] refl
    ] refl

pub shards_serve_as_one : ShardsServeAsOne
shards_serve_as_one deal servers one calls alike a =
    let mine = shard_calls deal (deal a) calls in
    record {
      replied = isolated_from a mine (servers (deal a)) one (alike a)
          ∙ ap (replies one) (own_share deal a calls) ∙ sym (is_isolated one calls a);
      kept =
          sight-after_calls a mine (servers (deal a))
          ∙ ap (sight_over (sight (servers (deal a)) a)) (own_share deal a calls)
          ∙ ap (λ v. sight_over v (own_calls a calls)) (alike a)
          ∙ sym (sight-after_calls a calls one);
    }
