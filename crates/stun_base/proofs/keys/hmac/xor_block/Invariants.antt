use Rattle.std.proofs.Common.{◌≡◌, length, take}
use Rattle.stun_base.specs.Hmac as spec
use Rattle.stun_base.proofs.keys.hmac.xor_block.Given as goal

-- the bytes before the index are done
abbrev pub invariant-loop-i : goal.invariant-loop-i
invariant-loop-i l = record {
  long : length l.masked ≡ 64;
  done : take l.i l.masked ≡ spec.xor_pad l.pad (take l.i l.block);
}
