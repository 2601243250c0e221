-- The front, and the types after it.
use Rattle.std.proofs.Common.{◌≡◌, ◌≤◌, ◌+◌, ◌*◌, pos, length, rules, arith}
use Rattle.std.specs.Prelude.{Ok}
use Rattle.stun_types.specs.Attribute.{attribute_length}
use Rattle.stun_extra.specs.Unknown.{unknown_types}
use Rattle.stun_numbers.specs.Buffers.{within_room}
use Rattle.stun_c.specs.Answers.{written_number}
use Rattle.stun_c.specs.Extra.{unknown_answer}
use Rattle.stun_c.proofs.Refused.{answer_number, answer_written}
use Rattle.stun_c.proofs.unknown.write_answer.Goals as goal

pub returns : goal.returns
returns c =
    let types = unknown_types c.args.known.now c.args.request.now in
    let room : 48 + attribute_length (2 * c.args.count) ≤ length c.args.out.now = omega arith in
    let number : written_number
    (within_room (Ok (unknown_answer c.args.request.now types)) (length c.args.out.now))
    ≡ pos (48 + attribute_length (2 * c.args.count)) =
    answer_number c.args.request.now types c.args.count (length c.args.out.now) c.requires.count
    room in
    record {
      answer = search rules;
      written =
          answer_written c.args.request.now c.args.out.now c.write_front.new.out
          c.append_types.new.out types c.args.count c.requires.count
          c.write_front.ensures c.append_types.ensures.written room;
    }
