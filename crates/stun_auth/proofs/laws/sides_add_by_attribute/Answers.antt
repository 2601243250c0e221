-- Signing by a side is adding its list, attribute by attribute.
use Rattle.stun_auth.proofs.SignedSides.{client_same, server_same, server_there}
use Rattle.stun_auth.proofs.laws.sides_add_by_attribute.Goals as goal

pub returns-clause-client : goal.returns-clause-client
returns-clause-client c = client_same

pub returns-clause-server : goal.returns-clause-server
returns-clause-server c = server_same

pub returns-clause-there : goal.returns-clause-there
returns-clause-there c = server_there
