-- The search over the visible attributes is the definition's, and each of them is within.
use Rattle.std.proofs.Common.{rules, sym, subst, ◌∙◌, ◌+◌, ◌≤◌, length}
use Rattle.std.specs.Prelude.{IfSome, ◌==◌}
use Rattle.std.proofs.lemmas.Iterator.Adapters.{option_map_id}
use Rattle.std.proofs.lemmas.Iterator.Consumers.{YieldsList-from_first}
use Rattle.std.proofs.lemmas.Iterator.Search.{find_from_yields_List}
use borrow.Author.Tests.{tests}
use Rattle.stun_types.specs.Visible.{visible}
use Rattle.stun_c.proofs.Members.{first-within}
use Rattle.stun_c.proofs.reading.find_first.Goals as goal

pub returns-clause-first : goal.returns-clause-first
returns-clause-first c =
    sym (option_map_id c.find.result)
    ∙ find_from_yields_List (λ m. m.1.kind == c.args.kind.0) _ _ c.find.result c.find.ensures.ran
    (YieldsList-from_first (λ m. m) (λ left. left) (visible c.args.message.now)
    c.iter_attributes.ensures.visible) (λ m b q k. search (rules, tests))

pub returns-clause-within : goal.returns-clause-within
returns-clause-within c =
    subst (λ found. IfSome found (λ m. m.0 + 4 ≤ length c.args.message.now))
    (sym (returns-clause-first c)) (first-within c.args.kind.0 c.args.message.now)
