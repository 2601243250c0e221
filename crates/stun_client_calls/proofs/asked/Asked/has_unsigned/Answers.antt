-- The search over the earlier messages is the definition's.
use Rattle.std.proofs.Common.{◌≡◌, ◌∙◌, ℕ, Bool, rules, sym, ap}
use Rattle.std.specs.Map.Iter.{deref_pair}
use Rattle.std.specs.Option.{is_none, is_some, option_map}
use Rattle.std.specs.Prelude.{find}
use Rattle.std.proofs.lemmas.Iterator.Consumers.{YieldsList-from_rest}
use Rattle.std.proofs.lemmas.Iterator.Search.{find_from_yields_List}
use borrow.Author.Tests.{tests}
use Rattle.stun_client_calls.specs.Messages.{AllSent, SentSeen}
use Rattle.stun_client_calls.proofs.OptionLemmas.{is_some_map}
use Rattle.stun_client_calls.proofs.asked.Asked.has_unsigned.Goals as goal

pub returns : goal.returns
returns g c =
    let test : ℕ × SentSeen → Bool = λ e. is_none e.1.signed_for in
    let all : AllSent = c.args.self.now.earlier in
    let found : option_map deref_pair c.find-unsigned.result ≡ find test all =
    find_from_yields_List test _ _ c.find-unsigned.result c.find-unsigned.ensures.ran
    (YieldsList-from_rest all (search rules))
    (λ x b q k. search (rules, tests)) in
    c.is_some.ensures ∙ sym (is_some_map deref_pair c.find-unsigned.result) ∙ ap is_some found
