-- The message is found by the number of its request.
use Rattle.std.proofs.Common.{◌∙◌, ℕ, None, Option, Some, ap, false}
use Rattle.std.specs.Option.{option_and_then, option_map}
use Rattle.stun_client.specs.Challenges.{Answered}
use Rattle.stun_client_requests.specs.Requests.{datum_of}
use Rattle.stun_client_calls.specs.Clients.{Client}
use Rattle.stun_client_calls.specs.Ids.{number_in}
use Rattle.stun_client_calls.specs.Messages.{AskedSeen, message_at}
use Rattle.stun_client_calls.specs.Receiving.{Met, as_earlier, earlier_of}
use Rattle.stun_client_calls.proofs.ReceivingLemmas.{earlier_is}
use Rattle.stun_client_calls.proofs.endpoint.ClientEndpoint.find_earlier.Goals as goal

abbrev some_met : Met → Option Met
some_met m = Some m

pub returns-in_default : goal.returns-in_default
returns-in_default g c =
    ap (λ (o : Option ℕ). option_and_then (earlier_of c.args.id c.args.self.now) o)
    (c.in_default.ensures.value ∙ ap (λ (x : Client). number_in c.args.id x.earlier) c.self.view_is)

pub returns-in_default-datum_of : goal.returns-in_default-datum_of
returns-in_default-datum_of g c =
    ap (λ (o : Option AskedSeen).
    option_and_then (λ b. option_map (as_earlier c.in-Some.number.now b)
    (message_at c.args.id b.earlier)) o)
    (c.in_default-datum_of.ensures
    ∙ ap (λ (x : Client). datum_of c.in-Some.number.now x.requests) c.self.view_is)
    ∙ ap (λ (o : Option ℕ). option_and_then (earlier_of c.args.id c.args.self.now) o)
    (c.in-Some.ensures.value ∙ ap (λ (x : Client). number_in c.args.id x.earlier) c.self.view_is)

pub returns-in-None : goal.returns-in-None
returns-in-None g c =
    earlier_is c.args.id c.args.self.now c.in-Some.number.now c.in-Some-datum_of.asked.now None
    (c.in-Some.ensures.value ∙ ap (λ (x : Client). number_in c.args.id x.earlier) c.self.view_is)
    (c.in-Some-datum_of.ensures
    ∙ ap (λ (x : Client). datum_of c.in-Some.number.now x.requests) c.self.view_is)
    c.in-None.ensures

pub returns-in-Some-message : goal.returns-in-Some-message
returns-in-Some-message g c =
    ap (λ (s : Option Answered). some_met (record {
      number = c.in-Some.number.now;
      asked = c.in-Some-datum_of.asked.now;
      is_current = false;
      signed_for = s;
    })) c.signed_for.ensures
    ∙ earlier_is c.args.id c.args.self.now c.in-Some.number.now c.in-Some-datum_of.asked.now _
    (c.in-Some.ensures.value ∙ ap (λ (x : Client). number_in c.args.id x.earlier) c.self.view_is)
    (c.in-Some-datum_of.ensures
    ∙ ap (λ (x : Client). datum_of c.in-Some.number.now x.requests) c.self.view_is)
    c.in-Some-message.ensures
