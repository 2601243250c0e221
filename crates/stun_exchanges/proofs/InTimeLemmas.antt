-- Whoever is accepted under a nonce is accepted in its epoch and in the next.
use Rattle.std.proofs.Common.{inl, inr, ℕ, zero, suc, sym, subst}
use Rattle.std.specs.declared.net.socket_addr.SocketAddr.{SocketAddr}
use Rattle.stun_judging.specs.Reading.{Reading}
use Rattle.stun_judging.specs.Verdict.{ClientSeen}
use Rattle.stun_endpoint.specs.Judged.{IsAcceptedAt, IsAcceptedBy, IsAcceptedUnder}
use Rattle.stun_endpoint.specs.Judged.{Realm}
use Rattle.stun_endpoint.specs.Nonces.{epoch_of, nonce_in}
use Rattle.stun_endpoint.specs.Settings.{Settings}
use Rattle.stun_exchanges.specs.Exchange.{IsWithinPeriod}

module _ (s : Settings) (realm : Realm) (from : SocketAddr) (r : Reading)
    (client : ClientSeen) where
  -- under the nonce of the epoch
  under : (e : ℕ) → IsAcceptedBy realm (nonce_in s s.secret from e) r client
      → IsAcceptedUnder s realm s.secret from e r client
  under zero one = one
  under (suc e) one = inl one

  pub accepted_within : (made now : ℕ) → IsWithinPeriod s made now
      → IsAcceptedBy realm (nonce_in s s.secret from (epoch_of s made)) r client
      → IsAcceptedAt s realm from now r client
  accepted_within made now (inl same) one =
      inl (subst (λ (e : ℕ). IsAcceptedUnder s realm s.secret from e r client) (sym same)
      (under (epoch_of s made) one))
  accepted_within made now (inr next) one =
      inl (subst (λ (e : ℕ). IsAcceptedUnder s realm s.secret from e r client) (sym next) (inr one))
