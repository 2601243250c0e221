use Rattle.std.proofs.Common.{◌≡◌, take}
use Rattle.stun_base.specs.Pairs.{after_reads}
use Rattle.stun_base.proofs.keys.compare.is_same_text_counted.Given as goal

-- as many pairs have been read as the loop has run, and no difference has been found where the bytes
-- before them are the same, and only there
abbrev pub invariant-loop : goal.invariant-loop
invariant-loop l = record {
  reads : l.pairs ≡ after_reads l.counter l.initial.pairs.one l.initial.pairs.other;
  found : l.difference ≡ 0 → take l.counter l.initial.pairs.one ≡ take l.counter l.initial.pairs.other;
  same : l.initial.pairs.one ≡ l.initial.pairs.other → l.difference ≡ 0;
}
