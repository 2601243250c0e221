-- A message that is signed has its header still.
use Rattle.stun_client_endpoint.proofs.FormLemmas.{header_of_signed}
use Rattle.stun_client_endpoint.proofs.form.sign_request.Goals as goal

pub returns-clause-header : goal.returns-clause-header
returns-clause-header g c =
    header_of_signed _ c.args.page _ c.sign.result c.requires c.sign.ensures.signed
