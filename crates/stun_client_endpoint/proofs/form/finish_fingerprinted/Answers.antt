-- With all memory granted FINGERPRINT is refused for another reason only.
use Rattle.stun_client_endpoint.proofs.MemoryLemmas.{end_granted}
use Rattle.stun_client_endpoint.proofs.form.finish_fingerprinted.Goals as goal

pub returns-clause-granted : goal.returns-clause-granted
returns-clause-granted g c =
    end_granted c.args.page.bytes c.finish_with_fingerprint.result
    c.finish_with_fingerprint.ensures.refused c.finish_with_fingerprint.ensures.granted
