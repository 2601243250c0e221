-- What was written is the message with one attribute more, which fits it.
use Rattle.std.proofs.Common.{rules, ◌≡◌, ◌+◌, ◌-◌, ◌^◌, min}
use Rattle.std.proofs.Common.{length, arith, sym, subst, ap, ◌∙◌}
use Rattle.stun_types.specs.Attribute.{TypedValue}
use Rattle.stun_types.specs.Writing.{HasOneMore, IsAddable, IsOpen, with_attribute}
use Rattle.stun_types.proofs.AddingLemmas.{HasOneMore-added, IsOpen-added}
use Rattle.stun_types.proofs.AddingLemmas.{with_attribute-spelled_message}
use Rattle.stun_types.proofs.write.ext.add_whole.Given.{Over}
use Rattle.stun_types.proofs.write.ext.add_whole.Goals as goal

-- the attribute
abbrev attribute : (g : Over) (c : goal.After-write_into g) → TypedValue
attribute g c = record {
  kind = g.A.Attribute.kind c.args.attribute.now;
  value = g.A.Attribute.value c.args.attribute.now;
}

-- it fits
is_addable : (g : Over) (c : goal.After-write_into g)
    → IsAddable (g.W.MessageWrite.bytes c.args.writer.now) (attribute g c)
is_addable g c =
    let sum : c.count_length_with-message_length.result
    ≡ min (length (g.W.MessageWrite.bytes c.args.writer.now) - 20 + c.padded_len.result)
    (2 ^ 64 - 1) =
    rw c.data.ensures at c.count_length_with-message_length.ensures in
    record {
      kind = c.requires.kind;
      value = omega (arith, sum, c.padded_len.ensures, c.if-message_length-gt-MAX_LENGTH.false);
    }

-- what was written
written : (g : Over) (c : goal.After-write_into g)
    → g.W.MessageWrite.bytes c.write_into.new.writer
    ≡ with_attribute (g.W.MessageWrite.bytes c.args.writer.now) (attribute g c)
written g c = search rules

pub returns : goal.returns
returns g c =
    let message = g.W.MessageWrite.bytes c.args.writer.now in
    record {
      refused = search rules;
      bytes = written g c;
      succeeds = search rules;
      granted = search rules;
      added = λ is_open.
          subst (λ after. HasOneMore message after (attribute g c)) (sym (written g c))
          (HasOneMore-added message (attribute g c) is_open (is_addable g c));
      «open» = λ is_open.
          subst IsOpen (sym (written g c))
          (IsOpen-added message (attribute g c) is_open (is_addable g c) c.requires.other);
      spelled = λ kind id list before.
          written g c ∙ (ap (λ text. with_attribute text (attribute g c)) before
          ∙ with_attribute-spelled_message kind id list (attribute g c));
      room = search rules;
      reserved = search rules;
      err = search rules;
      kept = search rules;
    }
