-- The meeting's run is the run that is negotiated, with turns of the client's settings.
use Rattle.std.proofs.Common.{◌≡◌, ◌≤◌, length, arith, Option, Some, None, sym, subst, IfSome}
use Rattle.std.specs.Prelude.{IsUtf8}
use Rattle.stun_base.specs.Credentials.{NameAndPassword}
use Rattle.stun_auth.specs.Client.{ClientState}
use Rattle.stun_proto.specs.Honest.{AreShort, ComesTo, strongest}
use Rattle.stun_proto.specs.Matching.{AreTexts}
use Rattle.stun_proto.specs.Negotiating.{lists, meeting, met_by}
use Rattle.stun_proto.specs.Negotiation.{Meeting, Round, whole_negotiation}
use Rattle.stun_proto.specs.Sides.{Passes}
use Rattle.stun_proto.specs.code.Sides.{IsRun}
use Rattle.stun_proto.proofs.meetings.Outcomes.{ends_at_strongest}
use Rattle.stun_proto.proofs.replay.negotiation.negotiate.Goals as goal

if_some_map : {A : Type 0} {P Q : A → Type 0} (o : Option A) → ((a : A) → P a → Q a) → IfSome o P
    → IfSome o Q
if_some_map (Some a) f h = f a h
if_some_map None f h = tt

-- the run of the meeting that the contract speaks of
whole : (g : _) (c : goal.After-meet g) →
    let m = meeting c.args.client.now.settings c.args.from c.args.ids c.args.moments c.args.words
    (lists c.args.between) in
    IsRun c.meet.result c.meet.new.client.state c.meet.new.server
    (whole_negotiation m c.args.client.now.state c.args.server.now)
    (Passes m c.args.client.now.state c.args.server.now)
whole g c =
    let k = c.args.client.now in
    let s = c.args.server.now in
    subst (λ (m : Meeting). IsRun c.meet.result c.meet.new.client.state c.meet.new.server
    (whole_negotiation m k.state s) (Passes m k.state s))
    (λ i. record {
      settings = k.settings;
      from = c.args.from;
      first = c.make_round-first.ensures.turn i;
      second = c.make_round-second.ensures.turn i;
    }) c.meet.ensures.run

pub make_round-first-requires : goal.make_round-first-requires
make_round-first-requires g c = omega arith

pub make_round-second-requires : goal.make_round-second-requires
make_round-second-requires g c = omega arith

pub returns-clause-settings : goal.returns-clause-settings
returns-clause-settings g c = c.meet.ensures.settings

pub returns-clause-steps : goal.returns-clause-steps
returns-clause-steps g c = (whole g c).steps

pub returns-clause-strongest : goal.returns-clause-strongest
returns-clause-strongest g c = λ new who honest.
    let k = c.args.client.now in
    let s = c.args.server.now in
    let m = meeting k.settings c.args.from c.args.ids c.args.moments c.args.words
    (lists c.args.between) in
    let name =
    subst (λ (o : Option NameAndPassword). IfSome o (λ user. IsUtf8 user.username))
    honest.ready.credentials c.show_name_is_text.ensures in
    let texts : AreTexts s.registered.realm who.username =
    record { realm = c.show_realm_is_text.ensures; username = name } in
    let law =
    subst (λ (state : ClientState). ComesTo c.args.from who (strongest m s)
    (whole_negotiation m state s))
    (sym new) (c.strongest_is_agreed.ensures m who s texts honest) in
    if_some_map (met_by c.meet.result c.meet.new.client.state c.meet.new.server)
    (λ met is. subst (ComesTo c.args.from who (strongest m s)) (sym is) law) (whole g c).steps

pub returns-clause-headline : goal.returns-clause-headline
returns-clause-headline g c = λ who client.
    let k = c.args.client.now in
    let s = c.args.server.now in
    let m = meeting k.settings c.args.from c.args.ids c.args.moments c.args.words
    (lists c.args.between) in
    let name =
    subst (λ (o : Option NameAndPassword). IfSome o (λ user. IsUtf8 user.username))
    client.ready.credentials c.show_name_is_text.ensures in
    let texts : AreTexts s.registered.realm who.username =
    record { realm = c.show_realm_is_text.ensures; username = name } in
    let drawn : length m.first.words ≡ 16 =
    subst (λ (t : Round). length t.words ≡ 16) c.make_round-first.ensures.turn
    c.make_round-first.ensures.count in
    let words : length m.first.words ≤ 16 = omega (arith, drawn) in
    let short : AreShort s.registered.realm who.username m.first.words =
    record { realm = client.realm_fits; username = client.name_fits; words = words } in
    let honest = c.short_names_are_signed.ensures m who s texts short client.ready in
    let law =
    subst (λ (state : ClientState). ComesTo c.args.from who (strongest m s)
    (whole_negotiation m state s))
    (sym client.new) (c.strongest_is_agreed.ensures m who s texts honest) in
    ends_at_strongest m s who c.meet.result c.meet.new.client.state c.meet.new.server
    (if_some_map (met_by c.meet.result c.meet.new.client.state c.meet.new.server)
    (λ met is. subst (ComesTo c.args.from who (strongest m s)) (sym is) law) (whole g c).steps)

pub returns-clause-memory : goal.returns-clause-memory
returns-clause-memory g c = (whole g c).memory

pub returns-clause-write : goal.returns-clause-write
returns-clause-write g c = (whole g c).write

pub returns-clause-granted : goal.returns-clause-granted
returns-clause-granted g c = c.meet.ensures.granted
