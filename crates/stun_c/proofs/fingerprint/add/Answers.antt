-- What is written is the message with its FINGERPRINT, 8 bytes longer.
use Rattle.std.proofs.Common.{◌≡◌, ◌+◌, ◌++◌, length, take, drop, Ok, rules, sym, ap, ◌∙◌, arith}
use Rattle.std.proofs.lemmas.List.{length-take-le}
use Rattle.stun_extra.specs.Fingerprint.{with_fingerprint}
use Rattle.stun_numbers.specs.Buffers.{buffer_after}
use Rattle.stun_numbers.specs.Refusals.{refusal_or}
use Rattle.stun_c.proofs.Ending.{ended_fingerprint, length_fingerprinted}
use Rattle.stun_c.proofs.fingerprint.add.Goals as goal

pub returns-in-Ok : goal.returns-in-Ok
returns-in-Ok c =
    let message = take c.args.count c.args.buffer.now in
    let front : length message ≡ c.args.count =
    length-take-le c.args.count c.args.buffer.now (omega (arith, c.in-Ok.ensures.room.whole)) in
    let whole : length (with_fingerprint message) ≡ c.args.count + 8 =
    length_fingerprinted message (omega (arith, front, c.in-Ok.ensures.room.header))
    ∙ ap (λ n. n + 8) front in
    record {
      answer = search rules;
      written =
          c.append.ensures.written
          ∙ ((λ i. ended_fingerprint message i ++ drop (sym whole i) c.args.buffer.now)
          ∙ sym (ap
          (λ refusal. buffer_after (refusal_or refusal (Ok (with_fingerprint message)))
          c.args.buffer.now)
          c.in-Ok.ensures.ok));
    }
