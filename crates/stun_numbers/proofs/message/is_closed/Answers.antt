-- The search over the visible attributes is the definition's.
use Rattle.std.proofs.Common.{rules, ap, sym, ◌∙◌}
use Rattle.std.specs.Prelude.{is_some}
use Rattle.std.proofs.lemmas.Iterator.Adapters.{option_map_id}
use Rattle.std.proofs.lemmas.Iterator.Consumers.{YieldsList-from_first}
use Rattle.std.proofs.lemmas.Iterator.Search.{find_from_yields_List}
use borrow.Author.Tests.{tests}
use Rattle.stun_types.specs.Visible.{visible}
use Rattle.stun_types.specs.Writing.{is_set_apart}
use Rattle.stun_numbers.proofs.message.is_closed.Goals as goal

pub returns : goal.returns
returns c =
    c.is_some.ensures
    ∙ ap is_some (sym (option_map_id c.find.result)
    ∙ find_from_yields_List (λ m. is_set_apart m.1.kind) _ _ c.find.result c.find.ensures.ran
    (YieldsList-from_first (λ m. m) (λ left. left) (visible c.args.message.now)
    c.iter_attributes.ensures.visible) (λ m b q k. search (rules, tests)))
