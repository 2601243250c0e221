-- What is told grows by the attribute at the place, and ends where none is left.
use Rattle.std.proofs.Common.{◌≡◌, ◌+◌, ◌++◌, refl, sym, ◌∙◌, ap, arith, append-nil, map}
use Rattle.stun_base.specs.Header.{HEADER_LENGTH}
use Rattle.stun_types.specs.Visible.{after, before}
use Rattle.stun_types.specs.Walk.{walk}
use Rattle.stun_types.proofs.WalkLemmas.{before-walk_from, walk_from-end}
use Rattle.stun_types.proofs.VisibleLemmas.{StandsAt}
use Rattle.stun_inspect.specs.Telling.{told_at, unhidden_members}
use Rattle.stun_inspect.proofs.TellingLemmas.{passed-step, told-step, unhidden_members-visible}
use Rattle.stun_inspect.proofs.telling.tell.Goals as goal

pub loop-attribute-init : goal.loop-attribute-init
loop-attribute-init g c =
    let none =
    before-walk_from HEADER_LENGTH HEADER_LENGTH c.args.bytes.now (omega arith) in
    record {
      passed = rw none refl;
      seen = rw none refl;
      so_far = rw none c.new-told.ensures.items;
    }

pub loop-attribute-preserved : goal.loop-attribute-preserved
loop-attribute-preserved g c =
    let at = c.loop-attribute in
    let stands : StandsAt at.place c.args.bytes.now c.in-Some.attribute
    c.get_type-kind.result.0 (at.place + c.padded_len-length.result) = record {
      whole = c.in-Some.ensures.whole;
      attribute_is = c.in-Some.ensures.value;
      kind_is = c.get_type-kind.ensures;
      behind_is = ap (λ n. at.place + n) c.padded_len-length.ensures;
    } in
    let next = passed-step at.invariant.passed stands in
    record {
      passed = next.0;
      seen = c.after-visibility.ensures
          ∙ (ap (λ v. after v c.get_type-kind.result.0) at.invariant.seen ∙ next.1);
      so_far = c.in_ok-push.ensures.items
          ∙ rw c.hider.ensures
          (told-step at.invariant.passed stands at.invariant.seen at.invariant.so_far);
    }

pub returns-clause-told : goal.returns-clause-told
returns-clause-told g c =
    let at = c.loop-attribute in
    let bytes = c.args.bytes.now in
    let front = before at.place (walk bytes) in
    let whole : front ≡ walk bytes =
    sym (append-nil front)
    ∙ (ap (λ ms. front ++ ms) (sym (walk_from-end at.place bytes c.in_default.ensures.none))
    ∙ at.invariant.passed) in
    at.invariant.so_far ∙ ap (map (told_at (walk bytes))) whole

pub returns-clause-visible : goal.returns-clause-visible
returns-clause-visible g c =
    ap unhidden_members (returns-clause-told g c) ∙ unhidden_members-visible c.args.bytes.now
