-- The first pair from the hash with the empty text on has the least name of the hash, unless its
-- hash is another.
use Rattle.std.proofs.Common.{◌≡◌, ℕ, List, Option, Some, None, String}
use Rattle.std.proofs.Common.{string_bytes, Bor, refl, sym, ◌∙◌, subst, true≢false}
use Rattle.std.specs.Option.{option_copied}
use Rattle.std.proofs.lemmas.Slice.Eq.{bytes_eq-Decides}
use Rattle.stun_judging.specs.code.NameIndex.{HashedNames, IsLeastNamed}
use Rattle.stun_judging.proofs.HashedNames.{first_named, none_named, passed_by}
use Rattle.stun_judging.proofs.name_index.NameIndex.find_first.Goals as goal

pub returns-in_err-found : goal.returns-in_err-found
returns-in_err-found g c =
    let from : List ℕ × String g.row.A.Denot = (c.args.hash.now, c.new.result) in
    let none =
    none_named c.self.inside.hashed from c.args.hash.now refl c.new.ensures.bytes c.range.result
    (c.range.ensures.in_range tt) c.in_err-found.ensures.steps.0 in
    subst (λ (r : Option (Bor (List ℕ))).
    IsLeastNamed c.args.self.now c.args.hash.now (option_copied r)) (sym c.from_residual.ensures)
    (subst (λ (names : HashedNames). IsLeastNamed names c.args.hash.now None) c.self.view_is none)

pub returns-then-eq : goal.returns-then-eq
returns-then-eq g c =
    let from : List ℕ × String g.row.A.Denot = (c.args.hash.now, c.new.result) in
    let pair = c.in_ok-found.field-0.now in
    let same : pair.0 ≡ c.args.hash.now =
    (bytes_eq-Decides pair.0 c.args.hash.now).0 (sym c.eq.ensures ∙ c.if-eq.true) in
    let first =
    first_named c.self.inside.hashed from c.args.hash.now refl c.new.ensures.bytes pair
    c.next.new.self c.range.result (c.range.ensures.in_range tt) c.in_ok-found.ensures.steps same in
    subst (λ (name : List ℕ). IsLeastNamed c.args.self.now c.args.hash.now (Some name))
    (sym c.as_str.ensures.value)
    (subst (λ (names : HashedNames).
    IsLeastNamed names c.args.hash.now (Some (string_bytes pair.1))) c.self.view_is first)

pub returns-else-eq : goal.returns-else-eq
returns-else-eq g c =
    let from : List ℕ × String g.row.A.Denot = (c.args.hash.now, c.new.result) in
    let pair = c.in_ok-found.field-0.now in
    let other : ¬ (pair.0 ≡ c.args.hash.now) =
    λ same. true≢false
    (sym ((bytes_eq-Decides pair.0 c.args.hash.now).1 same) ∙ sym c.eq.ensures ∙ c.if-eq.false) in
    subst (λ (names : HashedNames). IsLeastNamed names c.args.hash.now None) c.self.view_is
    (passed_by c.self.inside.hashed from c.args.hash.now refl c.new.ensures.bytes pair
    c.next.new.self c.range.result (c.range.ensures.in_range tt) c.in_ok-found.ensures.steps other)
