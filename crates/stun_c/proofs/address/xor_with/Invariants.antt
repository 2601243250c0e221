use Rattle.std.proofs.Common.{◌≡◌, ℕ, ◌≤◌, take, get_or}
use Rattle.stun_types.specs.XorMappedAddress.{xor_bytes}
use Rattle.stun_c.proofs.address.xor_with.Given as goal

-- the octets before the index are done, and the others as they were
abbrev pub invariant-loop-i : goal.invariant-loop-i
invariant-loop-i l = record {
  done : take l.i l.octets ≡ xor_bytes (take l.i l.fn.octets) l.key;
  rest : (k : ℕ) → l.i ≤ k → get_or l.octets k 0 ≡ get_or l.fn.octets k 0;
}
