-- Settings that are not refused are those of the client.
use Rattle.stun_c_endpoint.proofs.SettingLawLemmas.{client_made}
use Rattle.stun_c_endpoint.proofs.client.laws.clients_are_made_as_asked_for.Goals as goal

pub returns : goal.returns
returns c = λ g now call. client_made g now call
