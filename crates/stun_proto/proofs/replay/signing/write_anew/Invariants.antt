-- What was written so far, and that nothing of it was refused.
use Rattle.std.proofs.Common.{◌≡◌}
use Rattle.stun_base.specs.Header.{type_field}
use Rattle.stun_types.specs.Writing.{IsOpen}
use Rattle.stun_proto.proofs.meetings.SigningLemmas.{IsWritingAnew}
use Rattle.stun_proto.proofs.replay.signing.write_anew.Given as goal

abbrev pub invariant-loop-attribute : goal.invariant-loop-attribute
invariant-loop-attribute g l = record {
  written : IsWritingAnew l.message l.attribute-iterator l.writer.bytes;
  is_open : IsOpen l.writer.bytes;
  type_is : type_field l.writer.bytes ≡ type_field l.message;
}
