-- What is found is the first that the iterator gives.
use Rattle.std.proofs.Common.{rules, sym, ◌∙◌}
use Rattle.std.specs.Prelude.{◌==◌}
use Rattle.std.proofs.lemmas.Iterator.Adapters.{option_map_id}
use Rattle.std.proofs.lemmas.Iterator.Consumers.{YieldsList-from_first}
use Rattle.std.proofs.lemmas.Iterator.Search.{find_from_yields_List}
use borrow.Author.Tests.{tests}
use Rattle.stun_base.specs.Attributes.{FINGERPRINT}
use Rattle.stun_types.specs.Visible.{visible}
use Rattle.stun_extra.proofs.fingerprint.find_fingerprint.Goals as goal

pub returns : goal.returns
returns c =
    sym (option_map_id c.find.result)
    ∙ find_from_yields_List (λ m. m.1.kind == FINGERPRINT) _ _ c.find.result c.find.ensures.ran
    (YieldsList-from_first (λ m. m) (λ left. left) (visible c.args.message.now)
    c.iter_attributes.ensures.visible) (λ m b q k. search (rules, tests))
