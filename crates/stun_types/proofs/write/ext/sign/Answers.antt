-- The length is set as if the digest were there, and then the digest of that is appended.
use Rattle.std.proofs.Common.{rules, subst, sym, ◌≡◌, ◌+◌, ◌-◌, ◌^◌, min, length, arith, ap, ◌∙◌}
use Rattle.stun_base.specs.Algorithm.{digest_length}
use Rattle.stun_types.specs.Message.{with_length}
use Rattle.stun_types.specs.Integrity.{verified_by}
use Rattle.stun_types.specs.Writing.{HasOneMore, integrity_attribute, length_with, with_integrity}
use Rattle.stun_types.proofs.SigningLemmas.{HasOneMore-signed, verified_by-signed}
use Rattle.stun_types.proofs.WritingLemmas.{with_integrity-signed}
use Rattle.stun_types.proofs.write.ext.sign.Given.{Over}
use Rattle.stun_types.proofs.write.ext.sign.Goals as goal

-- what was written
written : (g : Over) (c : goal.After-append_integrity g)
    → g.W.MessageWrite.bytes c.append_integrity.new.writer
    ≡ with_integrity (g.W.MessageWrite.bytes c.args.writer.now) c.args.algorithm
    (g.K.DigestKey.key_bytes c.args.key.now)
written g c =
    let message = g.W.MessageWrite.bytes c.args.writer.now in
    let sum : c.count_length_with-message_length.result
    ≡ min (length message - 20 + c.count_integrity_length-padded_length.result) (2 ^ 64 - 1) =
    rw c.data.ensures at c.count_length_with-message_length.ensures in
    let stated : c.count_length_with-message_length.result
    ≡ length_with message (digest_length c.args.algorithm) = omega arith in
    let raised = c.set_length.ensures.bytes
    ∙ (ap (λ text. with_length text c.count_length_with-message_length.result)
    c.reserve.ensures.bytes
    ∙ ap (with_length message) stated) in
    c.append_integrity.ensures.bytes
    ∙ with_integrity-signed message c.args.algorithm (g.K.DigestKey.key_bytes c.args.key.now) _
    c.requires.header raised

pub returns : goal.returns
returns g c =
    let message = g.W.MessageWrite.bytes c.args.writer.now in
    let key = g.K.DigestKey.key_bytes c.args.key.now in
    record {
      succeeds = search rules;
      granted = search rules;
      bytes = written g c;
      added = λ is_open.
          subst (λ after.
          HasOneMore message after (integrity_attribute message c.args.algorithm key))
          (sym (written g c))
          (HasOneMore-signed message c.args.algorithm key is_open c.requires.short);
      stands = λ is_open keys is_key.
          ap (verified_by keys)
          (written g c ∙ ap (with_integrity message c.args.algorithm) (sym is_key))
          ∙ verified_by-signed message c.args.algorithm keys is_open c.requires.short;
      room = search rules;
      err = search rules;
      kept = search rules;
    }
