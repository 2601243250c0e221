-- The outcome that the result of `receive` describes, at each kind of server.
use Rattle.stun_endpoint.specs.Responding.{OutcomeOf, answered, dropped, indicated}
use Rattle.stun_endpoint.specs.Responding.{requested, responded}
use Rattle.stun_endpoint.specs.declared.received.Received.{Received}
use Rattle.stun_endpoint.specs.declared.received.Received.TheVariants as code

abbrev pub outcome_of : {A R I : Type 0} → Received A R I → OutcomeOf R I
outcome_of (code.Answer answer) = answered answer
outcome_of (code.Request request) = requested request
outcome_of (code.Indication indication) = indicated indication
outcome_of (code.Response message) = responded message
outcome_of (code.Dropped reason) = dropped reason
