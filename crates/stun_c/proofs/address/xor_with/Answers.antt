-- Each octet is combined with its octet of the key, and those behind it stay.
use Rattle.std.proofs.Common.{◌<◌, ℕ, length, arith}
use Rattle.std.proofs.lemmas.Grind.{common_steps}
use Rattle.std.proofs.lemmas.List.{take_more_set}
use Rattle.stun_types.proofs.XorLemmas.{xor_bytes-more}
use Rattle.stun_c.proofs.address.xor_with.Goals as goal

pub loop-i-preserved : goal.loop-i-preserved
loop-i-preserved c = record {
  done =
      let written : c.loop-i.i < length c.loop-i.octets = omega arith in
      let within : c.loop-i.i < length c.args.octets.now = omega arith in
      let keyed : c.loop-i.i < length c.args.key.now = omega arith in
      rw (
        take_more_set c.loop-i.octets c.loop-i.i _ written,
        xor_bytes-more c.args.octets.now c.args.key.now c.loop-i.i within keyed,
        c.loop-i.invariant.done,
        c.loop-i.invariant.rest c.loop-i.i (omega arith),
      );
  rest = λ (k : ℕ) above. grind (arith, common_steps, c.loop-i.invariant.rest k (omega arith));
}
