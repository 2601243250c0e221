-- What decides is behind the place, or it is the weaker one that was passed.
use Rattle.std.proofs.Common.{◌≡◌, rules, true, false}
use Rattle.std.specs.Prelude.{◌==◌, None}
use Rattle.std.specs.Option.{is_some}
use Rattle.stun_base.specs.Attributes.{MESSAGE_INTEGRITY, MESSAGE_INTEGRITY_SHA256, FINGERPRINT}
use Rattle.stun_types.proofs.SearchLemmas.{IsUndecided-header, IsUndecided-stronger}
use Rattle.stun_types.proofs.SearchLemmas.{IsUndecided-fingerprint, IsUndecided-weaker}
use Rattle.stun_types.proofs.SearchLemmas.{IsUndecided-again, IsUndecided-other, IsUndecided-end}
use Rattle.stun_types.proofs.VisibleLemmas.{StandsAt-read}
use Rattle.stun_types.proofs.message.walk.find_deciding_place.Goals.{
  else-eq-3-via-then-eq-3+else-is_none,
}
use Rattle.stun_types.proofs.message.walk.find_deciding_place.Goals.{else-eq-3-via-else-eq-3}
use Rattle.stun_types.proofs.message.walk.find_deciding_place.Goals as goal

pub loop-kind-init : goal.loop-kind-init
loop-kind-init c = record {
  undecided = IsUndecided-header c.args.message.now;
  whole = search rules;
}

pub returns-then-eq-clause-deciding : goal.returns-then-eq-clause-deciding
returns-then-eq-clause-deciding c =
    let read = c.in-Some.ensures in
    let stands = StandsAt-read read.whole read.kind read.behind in
    let stronger : (c.in-Some.kind.0 == MESSAGE_INTEGRITY_SHA256) ≡ true = search rules in
    IsUndecided-stronger c.loop-kind.invariant.undecided stands stronger

pub returns-then-eq-2-clause-deciding : goal.returns-then-eq-2-clause-deciding
returns-then-eq-2-clause-deciding c =
    let read = c.in-Some.ensures in
    let stands = StandsAt-read read.whole read.kind read.behind in
    let fingerprint : (c.in-Some.kind.0 == FINGERPRINT) ≡ true = search rules in
    IsUndecided-fingerprint c.loop-kind.invariant.undecided stands fingerprint

pub loop-kind-preserved-then-is_none : goal.loop-kind-preserved-then-is_none
loop-kind-preserved-then-is_none c =
    let read = c.in-Some.ensures in
    let no_stronger : (c.in-Some.kind.0 == MESSAGE_INTEGRITY_SHA256) ≡ false = search rules in
    let no_fingerprint : (c.in-Some.kind.0 == FINGERPRINT) ≡ false = search rules in
    let weaker : (c.in-Some.kind.0 == MESSAGE_INTEGRITY) ≡ true = search rules in
    let none : c.loop-kind.weaker ≡ None = search rules in
    let stands = StandsAt-read read.whole read.kind read.behind in
    let undecided = c.loop-kind.invariant.undecided in
    record {
      undecided = IsUndecided-weaker undecided stands no_stronger no_fingerprint weaker none;
      whole = read.whole;
    }

pub loop-kind-preserved : goal.loop-kind-preserved
loop-kind-preserved c =
    let read = c.in-Some.ensures in
    let stands = StandsAt-read read.whole read.kind read.behind in
    let no_stronger : (c.in-Some.kind.0 == MESSAGE_INTEGRITY_SHA256) ≡ false = search rules in
    let no_fingerprint : (c.in-Some.kind.0 == FINGERPRINT) ≡ false = search rules in
    let undecided = c.loop-kind.invariant.undecided in
    record {
      undecided = elim c.else-eq-3.branch [
        | else-eq-3-via-then-eq-3+else-is_none w ↦
            let passed : is_some c.loop-kind.weaker ≡ true = search rules in
            IsUndecided-again undecided stands no_stronger no_fingerprint passed
        | else-eq-3-via-else-eq-3 w ↦
            let no_weaker : (c.in-Some.kind.0 == MESSAGE_INTEGRITY) ≡ false = search rules in
            IsUndecided-other undecided stands no_stronger no_fingerprint no_weaker
      ];
      whole = c.loop-kind.invariant.whole;
    }

pub returns-clause-deciding : goal.returns-clause-deciding
returns-clause-deciding c =
    IsUndecided-end c.loop-kind.invariant.undecided c.in_default.ensures.none
