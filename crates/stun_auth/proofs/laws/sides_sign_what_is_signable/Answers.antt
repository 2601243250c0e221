-- Adding the list of a side succeeds if its message is signable.
use Rattle.std.proofs.Common.{◌≡◌, None, Some, Option, refl, ◌∙◌, ap}
use Rattle.std.specs.Option.{IsSomeAnd}
use Rattle.std.specs.Result.{is_ok}
use Rattle.stun_judging.specs.Additions.{Page, added_all}
use Rattle.stun_judging.specs.Signed.{IsSignable}
use Rattle.stun_auth.specs.Signed.{added_by_client, added_by_server}
use Rattle.stun_auth.proofs.laws.sides_sign_what_is_signable.Goals as goal

-- what holds of what is there
of_some : {A X : Type 0} (o : Option A) (P : A → Type 0) → IsSomeAnd o P
    → ((a : A) → o ≡ Some a → P a → X) → X
of_some None P h then = absurd h
of_some (Some a) P h then = then a refl h

pub returns-clause-client : goal.returns-clause-client
returns-clause-client c = λ request state message room may.
    ap is_ok
    (ap (λ list. added_all list (record { bytes = message; room = room }))
    (c.sides_add_by_attribute.ensures.client request state)
    ∙ c.signing_succeeds_with_room.ensures.signable (added_by_client request state) message
    room may)

pub returns-clause-server : goal.returns-clause-server
returns-clause-server c = λ s response message room may.
    let page : Page = record { bytes = message; room = room } in
    of_some (added_by_server s response) (λ a. IsSignable a message room) may
    (λ a is signable.
    ap is_ok
    (c.sides_add_by_attribute.ensures.server s response page a is
    ∙ c.signing_succeeds_with_room.ensures.signable a message room signable))
