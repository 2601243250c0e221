-- What a meeting answers, and how it leaves both sides, by what it comes to.
use Rattle.std.proofs.Common.{◌≡◌, ℕ, List, inl, inr, Option, Some}
use Rattle.std.proofs.Common.{None, IfSome, refl, sym, ◌∙◌, subst, ap}
use Rattle.std.specs.Option.{option_and_then, option_map_or}
use Rattle.std.specs.FinMap as map
use Rattle.std.specs.declared.net.socket_addr.SocketAddr.{SocketAddr}
use Rattle.std.specs.declared.result.Result.{Result}
use Rattle.std.specs.declared.result.Result.TheVariants.{Ok, Err}
use Rattle.stun_base.specs.Credentials.{NameAndPassword}
use Rattle.stun_base.specs.Keys.{long_term_key}
use Rattle.stun_base.specs.declared.keys.algorithm.IntegrityAlgorithm.{IntegrityAlgorithm}
use Rattle.stun_base.specs.declared.wire.error.StunWriteError.{StunWriteError}
use Rattle.stun_auth.specs.declared.client.answer.LongTermClientAuthErrorReason.TheVariants.{
  UnsupportedFeature,
}
use Rattle.stun_judging.specs.Algorithms.{algorithms_of}
use Rattle.stun_auth.specs.Client.{ClientState, initial}
use Rattle.stun_judging.specs.Verdict.{ClientSeen}
use Rattle.stun_auth.specs.Seen.{PlaceSeen}
use Rattle.stun_auth.specs.Validation.{ServerSeen, client_at}
use Rattle.stun_proto.specs.Headline.{EndsAtStrongest, EndsWith, KnowEachOther}
use Rattle.stun_proto.specs.Honest.{AgreesOn, ComesTo, strongest}
use Rattle.stun_proto.specs.Negotiating.{met_by}
use Rattle.stun_proto.specs.Negotiation.{Meeting, Met, ending_with}
use Rattle.stun_proto.specs.declared.replay.negotiation.NegotiateError.{NegotiateError}
use Rattle.stun_proto.specs.declared.replay.negotiation.NegotiateError.TheVariants.{Memory, Write}
use Rattle.stun_proto.specs.declared.replay.negotiation.Outcome.{Outcome}
use Rattle.stun_proto.specs.declared.replay.negotiation.Outcome.TheVariants.{Validated}
use Rattle.stun_proto.specs.declared.replay.negotiation.Outcome.TheVariants.{ClientRefused}
use Rattle.stun_proto.proofs.meetings.Strongest.{best_is}

-- the outcome where this is the strongest algorithm of both
abbrev outcome_at : Option IntegrityAlgorithm → Outcome
outcome_at (Some a) = Validated a
outcome_at None = ClientRefused UnsupportedFeature

-- how both sides are left then
abbrev Left : SocketAddr → NameAndPassword → Option IntegrityAlgorithm → ClientState → ServerSeen
    → Type 0
Left from who (Some a) client server = KnowEachOther from who a client server
Left from who None client server =
    (client ≡ initial) × (place : PlaceSeen) × (map.get server.places from ≡ Some place)
    × (place.client ≡ None)

-- the same outcome, whatever the error would be
same_outcome : (o p : Outcome) (first : Result Outcome StunWriteError) → first ≡ Ok o → first ≡ Ok p
    → o ≡ p
same_outcome o p first f g = let same : Ok o ≡ Ok p = sym f ∙ g in cc

-- a client that is known with an algorithm is known with that one alone
same_algorithm : (name : List ℕ) (a b : IntegrityAlgorithm) (found : Option ClientSeen)
    → found ≡ Some (record { name = name; algorithm = b })
    → found ≡ Some (record { name = name; algorithm = a }) → b ≡ a
same_algorithm name a b found one other =
    ap (λ (o : Option ClientSeen). option_map_or (λ (c : ClientSeen). c.algorithm) o a)
    (sym one ∙ other)

-- both sides have come to an algorithm: so they know each other
known : (from : SocketAddr) (who : NameAndPassword) (a : IntegrityAlgorithm) (met : Met)
    → AgreesOn from who a met → KnowEachOther from who a met.client met.server
known from who a met h =
    let c = h.joined.0 in
    let p = h.joined.1 in
    let both = h.joined.3 in
    let there : client_at met.server from ≡ p.client =
    ap (option_and_then (λ (q : PlaceSeen). q.client)) both.place in
    let same =
    same_algorithm who.username a c.algorithm p.client both.client (sym there ∙ h.server_client) in
    record {
      place = p;
      challenge = c;
      kept = both.place;
      known = both.client ∙ ap (λ b. Some (record { name = who.username; algorithm = b })) same;
      state = h.joined.2;
      algorithm = same;
      realm = both.matches.realm;
      nonce = both.matches.nonce;
      key = both.matches.key
          ∙ ap (λ b. long_term_key b who.username met.server.registered.realm who.password) same;
    }

left_so : (from : SocketAddr) (who : NameAndPassword) (found : Option IntegrityAlgorithm)
    (met : Met) → ComesTo from who found met → Left from who found met.client met.server
left_so from who (Some a) met h = known from who a met h
left_so from who None met h = (h.client, h.server_place.0, h.server_place.1, h.server_place.2)

ending : (from : SocketAddr) (who : NameAndPassword) (found : Option IntegrityAlgorithm)
    (result : Result Outcome NegotiateError) (client : ClientState) (server : ServerSeen)
    → IfSome (met_by result client server) (ComesTo from who found)
    → EndsWith result (outcome_at found) (Left from who found client server)
ending from who (Some a) (Ok outcome) client server h =
    inl (
      ap Ok (same_outcome outcome (Validated a) (Ok outcome) refl h.ending),
      left_so from who (Some a) (ending_with outcome client server) h,
    )
ending from who None (Ok outcome) client server h =
    inl (
      ap Ok (same_outcome outcome (ClientRefused UnsupportedFeature) (Ok outcome) refl h.ending),
      left_so from who None (ending_with outcome client server) h,
    )
ending from who (Some a) (Err (Write reason)) client server h =
    absurd (let clash : Err reason ≡ Ok (Validated a) = h.ending in cc)
ending from who None (Err (Write reason)) client server h =
    absurd (let clash : Err reason ≡ Ok (ClientRefused UnsupportedFeature) = h.ending in cc)
ending from who (Some a) (Err Memory) client server h = inr refl
ending from who None (Err Memory) client server h = inr refl

pub ends_at_strongest : (m : Meeting) (server : ServerSeen) (who : NameAndPassword)
    (result : Result Outcome NegotiateError) (client : ClientState) (left : ServerSeen)
    → IfSome (met_by result client left) (ComesTo m.from who (strongest m server))
    → EndsAtStrongest m who server result client left
ends_at_strongest m server who result client left h =
    let ours = m.settings.supported in
    let theirs = algorithms_of server.registered.algorithms in
    let law = best_is ours theirs m.settings.feature server.feature in
    let found = ending m.from who (strongest m server) result client left h in
    let at : Option IntegrityAlgorithm
    → Type 0 = λ o. EndsWith result (outcome_at o) (Left m.from who o client left) in
    record {
      validated = λ a common possible. subst at ((law.some a).1 (possible, common)) found;
      refused = λ nothing. subst at (law.none.1 nothing) found;
    }
