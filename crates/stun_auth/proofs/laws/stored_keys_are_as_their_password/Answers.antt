-- Both users have the same name and the same keys.
use Rattle.std.proofs.Common.{Some, refl}
use Rattle.stun_judging.specs.Named.{only_user}
use Rattle.stun_judging.specs.Registered.{user_by_keys, user_by_password}
use Rattle.stun_auth.proofs.SameKeys.{answer-same, message-same, server_additions-same}
use Rattle.stun_auth.proofs.SameKeys.{server_signed-same, signing-same}
use Rattle.stun_judging.proofs.UserKeys.{same_keys, same_names}
use Rattle.stun_auth.proofs.laws.stored_keys_are_as_their_password.Goals as goal

pub returns-clause-answer : goal.returns-clause-answer
returns-clause-answer c = λ s user keys from now words r are.
    answer-same s (only_user (Some (user_by_keys user.username keys)))
    (only_user (Some (user_by_password user)))
    (same_names s.registered user keys are) (same_keys s.registered user keys are) from now words r

pub returns-clause-state : goal.returns-clause-state
returns-clause-state c = λ s user keys from now words r are.
    message-same s (only_user (Some (user_by_keys user.username keys)))
    (only_user (Some (user_by_password user)))
    (same_names s.registered user keys are) (same_keys s.registered user keys are) from now words r

pub returns-clause-source : goal.returns-clause-source
returns-clause-source c = λ s user keys from now r. refl

pub returns-clause-signed : goal.returns-clause-signed
returns-clause-signed c = λ s user keys to response page are.
    server_signed-same s (only_user (Some (user_by_keys user.username keys)))
    (only_user (Some (user_by_password user)))
    (same_names s.registered user keys are) (same_keys s.registered user keys are) to response page

pub returns-clause-additions : goal.returns-clause-additions
returns-clause-additions c = λ s user keys to response are.
    server_additions-same s (only_user (Some (user_by_keys user.username keys)))
    (only_user (Some (user_by_password user)))
    (same_names s.registered user keys are) (same_keys s.registered user keys are) to response

pub returns-clause-left : goal.returns-clause-left
returns-clause-left c = λ s user keys to response.
    signing-same s (only_user (Some (user_by_keys user.username keys)))
    (only_user (Some (user_by_password user))) to response
