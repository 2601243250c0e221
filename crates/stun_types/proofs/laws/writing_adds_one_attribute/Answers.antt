-- An attribute is spelled behind the others, and an open message hides none.
use Rattle.stun_types.proofs.AddingLemmas.{HasOneMore-added, IsOpen-added, IsOpen-spelled_message}
use Rattle.stun_types.proofs.AddingLemmas.{visible-open, with_attribute-spelled_message}
use Rattle.stun_types.proofs.laws.writing_adds_one_attribute.Goals as goal

pub returns-clause-begun : goal.returns-clause-begun
returns-clause-begun c =
    λ message_type transaction_id fits. IsOpen-spelled_message message_type transaction_id fits

pub returns-clause-shown : goal.returns-clause-shown
returns-clause-shown c = λ message is_open. visible-open message is_open

pub returns-clause-added : goal.returns-clause-added
returns-clause-added c =
    λ message attribute is_open addable. HasOneMore-added message attribute is_open addable

pub returns-clause-open : goal.returns-clause-open
returns-clause-open c =
    λ message attribute is_open addable other. IsOpen-added message attribute is_open addable other

pub returns-clause-spelled : goal.returns-clause-spelled
returns-clause-spelled c =
    λ message_type transaction_id attributes attribute.
    with_attribute-spelled_message message_type transaction_id attributes attribute
