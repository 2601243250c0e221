-- What a datagram of a list comes to, in its place.
use Rattle.std.proofs.Common.{◌≡◌, ◌≢◌, ℕ, List, [], ◌∷◌, ◌++◌, length, map, Some, refl, sym}
use Rattle.std.proofs.Common.{◌∙◌, ap}
use Rattle.std.specs.Prelude.{slice_get, IfOk}
use Rattle.std.specs.Global.{Vec}
use Rattle.std.specs.declared.net.socket_addr.SocketAddr.{SocketAddr}
use Rattle.std.specs.declared.result.Result.{Result}
use Rattle.std.specs.declared.result.Result.TheVariants.{Ok, Err}
use Rattle.stun_judging.specs.Registered.{Registered}
use Rattle.stun_endpoint.specs.Judged.{Realm}
use Rattle.stun_endpoint.specs.Received.{Outcome, dropped, received_by, received_for}
use Rattle.stun_endpoint.specs.Settings.{Settings}
use Rattle.stun_endpoint.specs.declared.received.DropReason.TheVariants.{OtherRealm}
use Rattle.stun_endpoint.proofs.RealmLemmas.{dropped_for_other, own_realm, realm_of_own}
use Rattle.stun_endpoint.proofs.RealmLemmas.{received_of_own}
use Rattle.stun_datagrams.specs.Events.{ServerEvent, Arrived, UserSecrets, outcomes, realm_with}
use Rattle.stun_datagrams.specs.Events.{users_after}
use Rattle.stun_datagrams.proofs.OutcomeLemmas.{outcome_after}

pub mapped_after : {X Y : Type 0} (f : X → Y) (before after : List X) (d : X)
    → slice_get (map f (before ++ d ∷ after)) (length before) ≡ Some (f d)
mapped_after f [] after d = refl
mapped_after f (first ∷ before) after d = mapped_after f before after d

pub is_mapped : {V E X Y : Type 0} (f : X → Y) (d : X) (seen : V → Y) (result : Result V E)
    → IfOk result (λ given. seen given ≡ f d)
    → IfOk result (λ given. (before after : List X)
    → slice_get (map f (before ++ d ∷ after)) (length before) ≡ Some (seen given))
is_mapped f d seen (Ok given) is = λ before after. mapped_after f before after d ∙ ap Some (sym is)
is_mapped f d seen (Err error) is = tt

module _ (s : Settings) (users : Registered) (from : SocketAddr) (now : ℕ) (bytes : List ℕ) where
  pub is_outcome : {V E : Type 0} (seen : V → Outcome) (result : Result V E)
      → IfOk result (λ given. seen given ≡ received_for s (Some users) from now bytes)
      → IfOk result (λ given. users.realm ≡ s.realm
      → (start : UserSecrets) (before after : List ServerEvent) (message : Vec ℕ)
      → message.items ≡ bytes → users.secrets ≡ users_after start before
      → slice_get (outcomes s start (before ++ Arrived from now message ∷ after)) (length before)
      ≡ Some (Some (seen given)))
  is_outcome seen (Ok given) is = λ own start before after message same there.
      outcome_after s start before after (Arrived from now message)
      ∙ ap (λ bs. Some (Some (received_by s (realm_with s (users_after start before)) from now bs)))
      same
      ∙ ap (λ secrets. Some (Some (received_by s (realm_with s secrets) from now bytes)))
      (sym there)
      ∙ ap (λ (realm : Realm). Some (Some (received_by s realm from now bytes)))
      (sym (realm_of_own s users own))
      ∙ ap (λ o. Some (Some o))
      (sym (is ∙ received_of_own s (Some users) from now bytes (own_realm s users own)))
  is_outcome seen (Err error) is = tt

  pub is_dropped : {V E : Type 0} (seen : V → Outcome) (result : Result V E)
      → IfOk result (λ given. seen given ≡ received_for s (Some users) from now bytes)
      → IfOk result (λ given. users.realm ≢ s.realm → seen given ≡ dropped OtherRealm)
  is_dropped seen (Ok given) is = λ other. is ∙ dropped_for_other s users from now bytes other
  is_dropped seen (Err error) is = tt
