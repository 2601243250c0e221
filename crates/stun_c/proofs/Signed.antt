-- The signed request, put together from what its parts are.
use Rattle.std.proofs.Common.{◌≡◌, ℕ, List, [], ◌∷◌, ◌++◌, length, refl}
use Rattle.std.specs.Prelude.{Some, None, Ok}
use Rattle.byteorder.specs.Endian.{big_number}
use Rattle.stun_base.specs.Attributes.{USERNAME}
use Rattle.stun_base.specs.MessageType.{type_number}
use Rattle.stun_base.specs.declared.keys.algorithm.IntegrityAlgorithm.{IntegrityAlgorithm}
use Rattle.stun_base.specs.declared.wire.message_type.MessageClass.TheVariants.{Request}
use Rattle.stun_types.specs.Grammar.{spelled_message}
use Rattle.stun_types.specs.Writing.{with_integrity}
use Rattle.stun_numbers.specs.Algorithms.{algorithm_numbered}
use Rattle.stun_c.specs.Requests.{signed_request, username_refusal}

-- what is written is the request that is asked for
pub request_signed : (number number_of_id : ℕ) (algorithm : IntegrityAlgorithm)
    (id name key username written request : List ℕ)
    → algorithm_numbered number ≡ Some algorithm → length id ≡ 12 → number_of_id ≡ big_number 12 id
    → username_refusal name ≡ None → username ≡ name
    → written
    ≡ spelled_message (type_number Request 0x001) number_of_id
    ([] ++ record { kind = USERNAME; value = username } ∷ [])
    → request ≡ with_integrity written algorithm key
    → signed_request (algorithm_numbered number) id name key ≡ Ok request
request_signed number number_of_id algorithm id name key username written request is_algorithm whole
    is_id is_name is_username is_written is_request =
    rw (is_algorithm, whole, is_name, is_request, is_written, is_id, is_username) refl
