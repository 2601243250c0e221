-- An address has the same calls of its own at its server as at one server of all.
use Rattle.stun_proto.proofs.server_runs.ShardsLemmas.{shards_serve_as_one}
use Rattle.stun_proto.proofs.laws.shards_serve_as_one.Goals as goal

pub returns : goal.returns
returns c = shards_serve_as_one
