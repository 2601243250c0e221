-- Where no nonce was made and no client is new the place stays as it is.
use Rattle.std.proofs.Common.{◌≡◌, Option, None, false, refl, rules, sym, ◌∙◌, ap}
use Rattle.std.specs.Option.{is_some, option_map}
use Rattle.stun_auth.specs.code.Judging.{client_in, place_left, places_left, renewal_seen}
use Rattle.stun_auth.specs.declared.server.validation.Renewal.{Renewal}
use Rattle.stun_auth.proofs.JudgingLemmas.{no_client, stays}
use Rattle.stun_auth.proofs.Unchanged.{at_place-same, or_memory}
use Rattle.stun_auth.proofs.server.LongTermServerAuth.commit.Goals as goal

pub returns-else-is_some-clause-state : goal.returns-else-is_some-clause-state
returns-else-is_some-clause-state g c =
    let s = c.args.self.now in
    let empty : is_some c.into_client-client.result ≡ false = search rules in
    let none : client_in c.args.judged ≡ None =
    no_client c.args.judged c.into_client-client.result c.into_client-client.ensures empty in
    or_memory c.to_answer-answer.result
    (ap (λ places. record s { places = places })
    (sym (at_place-same s.places c.args.from (λ p. place_left p c.args.judged)
    (stays c.args.judged none))
    ∙ ap (λ (r : Option (Renewal g.row.A.Denot)).
    places_left s.places c.args.from (option_map renewal_seen r) c.args.judged) (sym c.in-None.is)))
    refl
