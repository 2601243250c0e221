-- The outcome that the result of `Server::identify` describes.
use Rattle.stun_endpoint.specs.Lookups.{Identification, done, looked_up}
use Rattle.stun_endpoint.specs.Outcomes.{outcome_of}
use Rattle.stun_endpoint.specs.declared.lookup.Identified.{Identified}
use Rattle.stun_endpoint.specs.declared.lookup.Identified.TheVariants as code

abbrev pub identification_of : {A : Type 0} → Identified A → Identification
identification_of (code.Done received) = done (outcome_of received)
identification_of (code.Lookup lookup) = looked_up lookup
