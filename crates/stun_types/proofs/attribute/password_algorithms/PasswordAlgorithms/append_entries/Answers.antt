-- The entry of the index is written after those before it, and takes four bytes.
use Rattle.std.proofs.Common.{◌≡◌, length, ap, sym, ◌∙◌, arith}
use Rattle.std.specs.Prelude.{Some}
use Rattle.std.specs.List.{slice_get}
use Rattle.stun_types.proofs.EntryLemmas.{entries_more, length_of_entry, not_past}
use Rattle.stun_types.proofs.attribute.password_algorithms.PasswordAlgorithms.append_entries.Goals
    as goal
use Rattle.stun_types.proofs.attribute.password_algorithms.PasswordAlgorithms.append_entries.Goals.{
  in-Some,
  in_default,
}

pub loop-i-preserved : goal.loop-i-preserved
loop-i-preserved g c =
    elim c.match-get.branch [
      | in-Some w ↦
          let at : slice_get c.args.self.now c.loop-i.i ≡ Some w.in-Some.algorithm =
          sym c.get.ensures ∙ w.in-Some.is in
          let four : length w.to_entry.result ≡ 4 = ap length w.to_entry.ensures
          ∙ length_of_entry w.in-Some.algorithm in
          let room = w.append.ensures.room in
          let reserved = w.append.ensures.reserved in
          record {
            bytes =
                rw (
                  w.writer-is,
                  w.append.ensures.bytes,
                  w.to_entry.ensures,
                  c.loop-i.invariant.bytes,
                )
                (sym (entries_more (g.W.MessageWrite.bytes c.args.writer.now) c.args.self.now
                c.loop-i.i w.in-Some.algorithm at));
            room = rw w.writer-is (omega (arith, room, four, c.loop-i.invariant.room));
            reserved = rw w.writer-is (omega (arith, reserved, four, c.loop-i.invariant.reserved));
          }
      | in_default w
          ↦ absurd
          (not_past c.args.self.now c.loop-i.i (omega arith) (sym c.get.ensures ∙ w.in_default.is))
    ]
