-- What a batch comes to is a list, made of its datagrams one by one.
use Rattle.std.proofs.lemmas.List.{map-append}
use Rattle.stun_endpoint.specs.Batches.{received_one}
use Rattle.stun_endpoint.proofs.BatchLemmas.{each_outcome, picked-map}
use Rattle.stun_endpoint.proofs.laws.a_batch_is_its_single_calls.Goals as goal

pub returns-clause-each : goal.returns-clause-each
returns-clause-each c = λ s users now datagrams place d. each_outcome s users now datagrams place d

pub returns-clause-parts : goal.returns-clause-parts
returns-clause-parts c = λ s users now first later. map-append (received_one s users now) first later

pub returns-clause-order : goal.returns-clause-order
returns-clause-order c = λ s users now datagrams places.
    picked-map (received_one s users now) places datagrams
