-- The octets that are copied and hidden once more are those that the definition shows.
use Rattle.std.proofs.Common.{ap, sym, ◌∙◌}
use Rattle.std.specs.Prelude.{Ok}
use Rattle.stun_base.specs.Header.{transaction_id_field}
use Rattle.stun_types.specs.XorMappedAddress.{xor_bytes, xor_key}
use Rattle.stun_c.proofs.reading.find_shown.Goals as goal

pub returns-clause-ok : goal.returns-clause-ok
returns-clause-ok c =
    let shown = c.in_ok-port.ensures.ok (transaction_id_field c.args.message.now) in
    let key = c.xor_key.ensures ∙ ap xor_key c.transaction_id.ensures in
    let hidden = c.xor_with.ensures
    ∙ (ap (λ octets. xor_bytes octets c.xor_key.result) c.copy_from_slice.ensures.after
    ∙ ap (xor_bytes c.in_ok-port.octets.now) key) in
    shown ∙ ap Ok (sym hidden)
