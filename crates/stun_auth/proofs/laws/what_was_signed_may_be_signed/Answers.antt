-- If each addition succeeded, its condition held, so the message was signable.
use Rattle.std.proofs.Common.{◌≡◌, None, Some, Option, Ok, Err, refl, subst}
use Rattle.std.specs.Prelude.{IsOk, Result}
use Rattle.std.specs.Option.{IsSome, IsSomeAnd}
use Rattle.stun_base.specs.declared.wire.error.StunWriteError.{StunWriteError}
use Rattle.stun_judging.specs.Additions.{Page, added_all}
use Rattle.stun_auth.specs.Signed.{IsSignableByServer, added_by_client, added_by_server}
use Rattle.stun_judging.specs.Signed.{additions_of}
use Rattle.stun_judging.proofs.JoinedLemmas.{WritingLaws}
use Rattle.stun_auth.proofs.SignedBefore.{was_signable}
use Rattle.stun_auth.proofs.SignedLimits.{by_client, by_server}
use Rattle.stun_auth.proofs.laws.what_was_signed_may_be_signed.Goals as goal

writing : (c : goal.After-sides_add_by_attribute) → WritingLaws
writing c = record {
  shown = c.writing_adds_one_attribute.ensures.shown;
  added = c.writing_adds_one_attribute.ensures.added;
  opened = c.writing_adds_one_attribute.ensures.open;
  stands_signed = c.signed_message_stands.ensures.stands;
  signed = c.signed_message_stands.ensures.added;
}

-- the page that a success leaves
page_of : (r : Result Page StunWriteError) → IsOk r → (page : Page) × (r ≡ Ok page)
page_of (Ok page) ok = (page, refl)
page_of (Err reason) ok = absurd (cc)

some_and : {A : Type 0} (o : Option A) (P : A → Type 0) → IsSome o → ((a : A) → o ≡ Some a → P a)
    → IsSomeAnd o P
some_and None P is holds = absurd (cc)
some_and (Some a) P is holds = holds a refl

pub returns-clause-client : goal.returns-clause-client
returns-clause-client c = λ request state message room is_open short ok.
    let start : Page = record { bytes = message; room = room } in
    let signed = page_of (added_all (additions_of (added_by_client request state)) start)
    (subst (λ list. IsOk (added_all list start))
    (c.sides_add_by_attribute.ensures.client request state) ok) in
    by_client (added_by_client request state) message room
    (was_signable (writing c) (added_by_client request state) message room signed.0 is_open short
    signed.1)

pub returns-clause-server : goal.returns-clause-server
returns-clause-server c = λ s response message room is_open short ok.
    let start : Page = record { bytes = message; room = room } in
    some_and (added_by_server s response) (λ a. IsSignableByServer a message room)
    (c.sides_add_by_attribute.ensures.there s response start ok)
    (λ a is.
    let signed = page_of (added_all (additions_of a) start)
    (subst (λ (r : Result Page StunWriteError). IsOk r)
    (c.sides_add_by_attribute.ensures.server s response start a is) ok) in
    by_server a message room
    (was_signable (writing c) a message room signed.0 is_open short signed.1))
