-- The search over the visible attributes is the definition's, and each of them is within.
use Rattle.std.proofs.Common.{rules, sym, subst, ◌∙◌, ◌+◌, ◌≤◌, length}
use Rattle.std.specs.Prelude.{nat_lt, IfSome}
use Rattle.std.proofs.lemmas.Iterator.Adapters.{option_map_id}
use Rattle.std.proofs.lemmas.Iterator.Consumers.{YieldsList-from_first}
use Rattle.std.proofs.lemmas.Iterator.Search.{find_from_yields_List}
use borrow.Author.Tests.{tests}
use Rattle.stun_types.specs.Visible.{visible}
use Rattle.stun_c.proofs.Members.{next-within}
use Rattle.stun_c.proofs.reading.find_after.Goals as goal

pub returns-clause-first : goal.returns-clause-first
returns-clause-first c =
    sym (option_map_id c.find.result)
    ∙ find_from_yields_List (λ m. nat_lt c.args.place m.0) _ _ c.find.result c.find.ensures.ran
    (YieldsList-from_first (λ m. m) (λ left. left) (visible c.args.message.now)
    c.iter_attributes.ensures.visible) (λ m b q k. search (rules, tests))

pub returns-clause-within : goal.returns-clause-within
returns-clause-within c =
    subst (λ found. IfSome found (λ m. m.0 + 4 ≤ length c.args.message.now))
    (sym (returns-clause-first c)) (next-within c.args.place c.args.message.now)
