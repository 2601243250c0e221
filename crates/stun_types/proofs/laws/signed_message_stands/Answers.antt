-- The digest is of the bytes before it, which signing leaves as they were.
use Rattle.stun_types.proofs.SigningLemmas.{HasOneMore-signed, verified_by-signed}
use Rattle.stun_types.proofs.laws.signed_message_stands.Goals as goal

pub returns-clause-stands : goal.returns-clause-stands
returns-clause-stands c =
    λ message algorithm key is_open short.
    verified_by-signed message algorithm (λ _. key) is_open short

pub returns-clause-stands_by : goal.returns-clause-stands_by
returns-clause-stands_by c =
    λ message algorithm keys is_open short. verified_by-signed message algorithm keys is_open short

pub returns-clause-added : goal.returns-clause-added
returns-clause-added c =
    λ message algorithm key is_open short. HasOneMore-signed message algorithm key is_open short
