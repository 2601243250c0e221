-- Entry by entry.
use Rattle.stun_types.proofs.EntryLemmas.{entries-spelled}
use Rattle.stun_types.proofs.attribute.laws.entries_are_spelled.Goals as goal

pub returns : goal.returns
returns c = λ bytes list small read. entries-spelled bytes list (record { each = small }) read
