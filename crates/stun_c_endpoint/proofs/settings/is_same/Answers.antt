-- The bytes of the secrets are compared.
use Rattle.stun_judging.proofs.VerdictLemmas.{bytes_eq-tested}
use Rattle.stun_c_endpoint.proofs.settings.is_same.Goals as goal

pub returns : goal.returns
returns c =
    bytes_eq-tested c.is_same_text.result c.args.one.now c.args.other.now c.is_same_text.ensures
