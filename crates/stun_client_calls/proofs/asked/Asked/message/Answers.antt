-- The search over the earlier messages is the definition's.
use Rattle.std.proofs.Common.{◌≡◌, ◌∙◌, ℕ, Bool, rules, sym, ap}
use Rattle.std.specs.Prelude.{◌==◌}
use Rattle.std.specs.Map.Iter.{deref_pair}
use Rattle.std.specs.Option.{option_map}
use Rattle.std.specs.Prelude.{find}
use Rattle.std.proofs.lemmas.Iterator.Consumers.{YieldsList-from_rest}
use Rattle.std.proofs.lemmas.Iterator.Search.{find_from_yields_List}
use borrow.Author.Tests.{tests}
use Rattle.stun_client_calls.specs.Messages.{AllSent, SentSeen}
use Rattle.stun_client_calls.proofs.asked.Asked.message.Goals as goal

pub returns-in-Some : goal.returns-in-Some
returns-in-Some g c =
    let test : ℕ × SentSeen → Bool = λ e. e.1.id == c.args.id in
    let all : AllSent = c.args.self.now.earlier in
    let found : option_map deref_pair c.find.result ≡ find test all =
    find_from_yields_List test _ _ c.find.result c.find.ensures.ran
    (YieldsList-from_rest all (search rules))
    (λ x b q k. search (rules, tests)) in
    ap (λ o. option_map deref_pair o) (sym c.in-Some.is) ∙ found

pub returns-in-None : goal.returns-in-None
returns-in-None g c =
    let test : ℕ × SentSeen → Bool = λ e. e.1.id == c.args.id in
    let all : AllSent = c.args.self.now.earlier in
    let found : option_map deref_pair c.find.result ≡ find test all =
    find_from_yields_List test _ _ c.find.result c.find.ensures.ran
    (YieldsList-from_rest all (search rules))
    (λ x b q k. search (rules, tests)) in
    ap (λ o. option_map deref_pair o) (sym c.in-None.is) ∙ found
