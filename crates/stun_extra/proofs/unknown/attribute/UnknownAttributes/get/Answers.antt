-- The type of an index is the one that the iterator gives after so many.
use Rattle.std.proofs.Common.{◌≡◌, sym, ◌∙◌, ap}
use Rattle.std.specs.List.{slice_get}
use Rattle.std.proofs.lemmas.Iterator.Adapters.{option_map_id}
use Rattle.std.proofs.lemmas.Iterator.Consumers.{YieldsList-from_first, nth_from_yields_List}
use Rattle.stun_extra.specs.Unknown.{unknown_types}
use Rattle.stun_extra.specs.code.UnknownSource.{source_types}
use Rattle.stun_extra.proofs.unknown.attribute.UnknownAttributes.get.Goals as goal

pub returns-in-OfMessage : goal.returns-in-OfMessage
returns-in-OfMessage c =
    let types = unknown_types c.in-OfMessage.known.now c.in-OfMessage.message.now in
    let same : types ≡ c.args.self.now = sym (ap source_types c.in-OfMessage.is) ∙ c.self.view_is in
    sym (option_map_id c.nth.result)
    ∙ (nth_from_yields_List c.nth.result _ c.args.i c.nth.ensures.ran
    (YieldsList-from_first (λ m. m) (λ left. left) types c.unknown_types.ensures.types)
    ∙ ap (λ all. slice_get all c.args.i) same)
