-- The entry at the place is the first that is supported, or is passed over.
use Rattle.std.proofs.Common.{◌≡◌, ◌∙◌, None, Some, ap, length, refl, rules, sym}
use Rattle.std.specs.Prelude.{find}
use Rattle.stun_types.specs.Attribute.{attribute_length}
use Rattle.stun_extra.proofs.AlgorithmListLemmas.{no_entries, passed}
use Rattle.stun_client.specs.Offers.{known, known_of}
use Rattle.stun_client.specs.Preferences.{supports}
use Rattle.stun_client.specs.code.Offers.{if_supported}
use Rattle.stun_client.proofs.OfferLemmas.{found_at, found_past}
use Rattle.stun_client.proofs.challenge.offer.find_supported.Goals as goal

pub loop-entry-preserved : goal.loop-entry-preserved
loop-entry-preserved c =
    let p =
    passed c.loop-entry.place c.padded_len-place.result c.args.list.now c.in-Some.entry
    c.in-Some.ensures.whole c.in-Some.ensures.value c.padded_len-place.ensures in
    let none : if_supported c.args.preferences (known c.in-Some.entry) ≡ None = search rules in
    c.loop-entry.invariant
    ∙ ap (λ entries. find (supports c.args.preferences) (known_of entries)) p.entries_are
    ∙ found_past c.args.preferences (known c.in-Some.entry) _ none

pub returns-in-Some-read_supported : goal.returns-in-Some-read_supported
returns-in-Some-read_supported c =
    let p =
    passed c.loop-entry.place (attribute_length (length c.in-Some.entry.value)) c.args.list.now
    c.in-Some.entry c.in-Some.ensures.whole c.in-Some.ensures.value refl in
    let some : if_supported c.args.preferences (known c.in-Some.entry)
    ≡ Some c.in-Some-read_supported.algorithm = search rules in
    sym (c.loop-entry.invariant
    ∙ ap (λ entries. find (supports c.args.preferences) (known_of entries)) p.entries_are
    ∙ found_at c.args.preferences (known c.in-Some.entry) _ c.in-Some-read_supported.algorithm some)

pub returns : goal.returns
returns c =
    sym (c.loop-entry.invariant
    ∙ ap (λ entries. find (supports c.args.preferences) (known_of entries))
    (no_entries c.loop-entry.place c.args.list.now c.in_default.ensures.none))
