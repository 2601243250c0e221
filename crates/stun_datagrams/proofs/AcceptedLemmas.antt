-- At each index of a list of events: the verdict is that an accepted datagram has.
use Rattle.std.proofs.Common.{◌≡◌, ℕ, zero, suc, List, [], ◌∷◌, take}
use Rattle.std.proofs.Common.{Some, None, Bool, true, false, refl, sym, ◌∙◌, ap, Ok}
use Rattle.std.specs.Prelude.{cond, slice_get}
use Rattle.std.specs.Global.{Vec}
use Rattle.std.specs.declared.net.socket_addr.SocketAddr.{SocketAddr}
use Rattle.stun_judging.specs.Reading.{reading_of}
use Rattle.stun_judging.specs.Verdict.{ClientSeen}
use Rattle.stun_endpoint.specs.Judged.{judged}
use Rattle.stun_endpoint.specs.Nonces.{epoch_of}
use Rattle.stun_endpoint.specs.Responding.{is_undropped_request}
use Rattle.stun_endpoint.specs.Settings.{Settings}
use Rattle.stun_endpoint.proofs.AcceptedLemmas.{accepted_at}
use Rattle.stun_datagrams.specs.Events.{ServerEvent, Arrived, UserSecrets, RequestVerdict}
use Rattle.stun_datagrams.specs.Events.{realm_with}
use Rattle.stun_datagrams.specs.Events.{users_after, users_after_event, verdict_of_event, verdicts}
use Rattle.stun_datagrams.specs.Sentence.{AcceptsFromClients, IsAcceptedFrom}

verdict_at : (s : Settings) (users : UserSecrets) (events : List ServerEvent) (i : ℕ)
    (e : ServerEvent)
    → slice_get events i ≡ Some e
    → slice_get (verdicts s users events) i
    ≡ Some (verdict_of_event s (users_after users (take i events)) e)
verdict_at s users [] i e h = cc
verdict_at s users (first ∷ later) zero e h =
    let same : first ≡ e = cc in ap (λ x. Some (verdict_of_event s users x)) same
verdict_at s users (first ∷ later) (suc i) e h =
    verdict_at s (users_after_event users first) later i e h

-- a verdict is there only if the datagram is judged
is_judged : (b : Bool) (v w : RequestVerdict) → Some (cond b (Some v) None) ≡ Some (Some w)
    → (b ≡ true) × (v ≡ w)
is_judged true v w h = (refl, cc)
is_judged false v w h = cc

module _ (s : Settings) (users : UserSecrets) (from : SocketAddr) (now : ℕ) (message : Vec ℕ)
    (client : ClientSeen) where
  abbrev v : RequestVerdict
  v = judged s (realm_with s users) from now (reading_of message.items)

  forth : Some (verdict_of_event s users (Arrived from now message)) ≡ Some (Some (Ok client))
      → IsAcceptedFrom s users from now message.items client
  forth h =
      let one = is_judged (is_undropped_request s.requires_fingerprint message.items) v (Ok client)
      h in (
        one.0,
        (accepted_at s (realm_with s users) from (reading_of message.items) client
            (epoch_of s now)).0 one.1,
      )

  back : IsAcceptedFrom s users from now message.items client
      → Some (verdict_of_event s users (Arrived from now message)) ≡ Some (Some (Ok client))
  back (is, one) =
      ap (λ b. Some (cond b (Some v) None)) is
      ∙ ap (λ w. Some (Some w))
      ((accepted_at s (realm_with s users) from (reading_of message.items) client
      (epoch_of s now)).1 one)

pub accepts_from_clients : (s : Settings) (start : UserSecrets) (events : List ServerEvent)
    → AcceptsFromClients s start events (verdicts s start events)
accepts_from_clients s start events i from now message client is =
    let users = users_after start (take i events) in
    let found = verdict_at s start events i (Arrived from now message) is in (
      λ h. forth s users from now message client (sym found ∙ h),
      λ accepted. found ∙ back s users from now message client accepted,
    )
