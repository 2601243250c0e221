-- The outcome of a request by the verdict that the code found.
use Rattle.std.specs.Prelude.{ℕ, List}
use Rattle.std.specs.declared.net.socket_addr.SocketAddr.{SocketAddr}
use Rattle.std.specs.declared.result.Result.{Result}
use Rattle.std.specs.declared.result.Result.TheVariants.{Ok, Err}
use Rattle.stun_judging.specs.Judged.{AcceptedSeen}
use Rattle.stun_judging.specs.declared.refusal.VerdictRefusal.{VerdictRefusal}
use Rattle.stun_endpoint.specs.Received.{Outcome, outcome_of_accepted, refused_with}
use Rattle.stun_endpoint.specs.Settings.{Settings}

abbrev pub by_judgement : Settings → List ℕ → SocketAddr → List ℕ
    → Result AcceptedSeen VerdictRefusal → Outcome
by_judgement s nonce from bytes (Ok accepted) =
    outcome_of_accepted s accepted.key from bytes accepted.client
by_judgement s nonce from bytes (Err refusal) = refused_with s nonce from bytes refusal
