-- none of the algorithms before the index is supported
use Rattle.std.proofs.Common.{◌≡◌}
use Rattle.std.specs.Prelude.{drop, map}
use Rattle.stun_types.specs.PasswordAlgorithms.{integrity_of}
use Rattle.stun_auth.specs.ClientStep.{first_supported}
use Rattle.stun_auth.specs.code.Supported.{in_order}
use Rattle.stun_auth.proofs.client.challenge.find_first_supported.Given as goal

abbrev pub invariant-loop-i : goal.invariant-loop-i
invariant-loop-i l =
    first_supported (in_order l.supported) (map integrity_of l.list)
    ≡ first_supported (in_order l.supported) (map integrity_of (drop l.i l.list))
