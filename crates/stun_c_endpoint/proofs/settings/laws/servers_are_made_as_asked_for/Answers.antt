-- Settings that are not refused are those of the server.
use Rattle.stun_c_endpoint.proofs.SettingLawLemmas.{open_made, server_made, short_term_made}
use Rattle.stun_c_endpoint.proofs.settings.laws.servers_are_made_as_asked_for.Goals as goal

pub returns-clause-realm : goal.returns-clause-realm
returns-clause-realm c = λ g now call. server_made g now call

pub returns-clause-short_term : goal.returns-clause-short_term
returns-clause-short_term c = λ g now call. short_term_made g now call

pub returns-clause-open : goal.returns-clause-open
returns-clause-open c = λ g now call. open_made g now call
