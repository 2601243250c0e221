-- What was written is the message with its FINGERPRINT.
use Rattle.std.proofs.Common.{rules, sym, ◌∙◌, ap, subst, length, arith}
use Rattle.std.proofs.lemmas.Grind.{common_steps}
use Rattle.stun_types.specs.Integrity.{verified_by}
use Rattle.stun_types.specs.Writing.{HasOneMore}
use Rattle.stun_extra.specs.Fingerprint.{fingerprint_attribute, fingerprint_in}
use Rattle.stun_extra.proofs.FingerprintLemmas.{HasOneMore-fingerprint, IsFree}
use Rattle.stun_extra.proofs.FingerprintLemmas.{fingerprint_in-added, verified_by-fingerprint}
use Rattle.stun_extra.proofs.fingerprint.finish_with_fingerprint.Goals as goal

pub returns-clause-bytes : goal.returns-clause-bytes
returns-clause-bytes g c = first_of (search rules, grind (arith, common_steps))

pub returns-clause-added : goal.returns-clause-added
returns-clause-added g c is_message =
    let message = g.W.MessageWrite.bytes c.args.writer in
    let free : IsFree message = record {
      is_message = is_message;
      none = sym c.has_attribute.ensures ∙ c.if-has_attribute.false;
      short = omega (arith, ap length c.data.ensures, c.if-message_length-gt-MAX_LENGTH.false);
    } in
    subst (λ after. HasOneMore message after (fingerprint_attribute message))
    (sym (returns-clause-bytes g c)) (HasOneMore-fingerprint message free)

pub returns-clause-right : goal.returns-clause-right
returns-clause-right g c is_message =
    let message = g.W.MessageWrite.bytes c.args.writer in
    let free : IsFree message = record {
      is_message = is_message;
      none = sym c.has_attribute.ensures ∙ c.if-has_attribute.false;
      short = omega (arith, ap length c.data.ensures, c.if-message_length-gt-MAX_LENGTH.false);
    } in
    ap fingerprint_in (returns-clause-bytes g c) ∙ fingerprint_in-added message free

pub returns-clause-verdict : goal.returns-clause-verdict
returns-clause-verdict g c is_message keys =
    let message = g.W.MessageWrite.bytes c.args.writer in
    let free : IsFree message = record {
      is_message = is_message;
      none = sym c.has_attribute.ensures ∙ c.if-has_attribute.false;
      short = omega (arith, ap length c.data.ensures, c.if-message_length-gt-MAX_LENGTH.false);
    } in
    ap (verified_by keys) (returns-clause-bytes g c) ∙ verified_by-fingerprint keys message free
