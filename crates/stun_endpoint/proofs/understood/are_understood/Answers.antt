-- The search finds whether an attribute is of such a type.
use Rattle.std.proofs.Common.{rules, sym, ap, ◌∙◌, ◌≡◌}
use Rattle.std.specs.List.{list_any}
use Rattle.std.specs.Prelude.{not}
use Rattle.std.proofs.lemmas.Iterator.Consumers.{YieldsList-from_first}
use Rattle.std.proofs.lemmas.Iterator.Search.{any_from_yields_List}
use borrow.Author.Tests.{tests}
use Rattle.stun_types.specs.Visible.{visible}
use Rattle.stun_extra.specs.Unknown.{is_unknown}
use Rattle.stun_endpoint.proofs.UnderstoodLemmas.{is_empty-types}
use Rattle.stun_endpoint.proofs.understood.are_understood.Goals as goal

pub returns : goal.returns
returns c =
    let known = c.args.known.now in
    let members = visible c.args.message.now in
    let found : c.any.result ≡ list_any (λ m. is_unknown known m.1.kind) members =
    any_from_yields_List (λ m. is_unknown known m.1.kind) _ _ c.any.result c.any.ensures.ran
    (YieldsList-from_first (λ m. m) (λ left. left) members c.iter_attributes.ensures.visible)
    (λ m b q k. search (rules, tests)) in
    ap not found ∙ sym (is_empty-types (is_unknown known) members)
