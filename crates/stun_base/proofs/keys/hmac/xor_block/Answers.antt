-- Each byte of the block is masked once, and the others stay.
use Rattle.std.proofs.Common.{◌<◌, length, arith, bit_xor}
use Rattle.std.proofs.lemmas.List.{map_more, take_more_set}
use Rattle.std.proofs.lemmas.Grind.{common_steps}
use Rattle.stun_base.proofs.keys.hmac.xor_block.Goals as goal

pub loop-i-preserved : goal.loop-i-preserved
loop-i-preserved c = record {
  long = grind (arith, common_steps);
  done =
      let below : c.loop-i.i < length c.loop-i.masked = omega (arith, c.loop-i.invariant.long) in
      let inside : c.loop-i.i < length c.args.block.now = omega (arith, c.told-block) in
      rw (
        take_more_set c.loop-i.masked c.loop-i.i _ below,
        map_more (λ byte. bit_xor byte c.args.pad) c.args.block.now c.loop-i.i 0 inside,
        c.loop-i.invariant.done,
      );
}

pub returns : goal.returns
returns c = grind (arith, common_steps)
