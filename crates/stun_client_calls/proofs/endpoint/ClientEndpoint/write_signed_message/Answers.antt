-- The message is signed as the client signs.
use Rattle.std.proofs.Common.{◌≡◌, ◌⊎◌, inl, inr, Ok, Err, rules, subst, sym, true}
use Rattle.std.specs.Prelude.{IfErr, IsErr}
use Rattle.std.specs.declared.result.Result.{Result}
use Rattle.stun_client_calls.specs.Clients.{Client}
use Rattle.stun_client_endpoint.specs.Written.{is_text_too_long, request_bytes}
use Rattle.stun_client_endpoint.specs.declared.told.RequestError.{RequestError}
use Rattle.stun_client_endpoint.specs.declared.told.RequestError.TheVariants.{OutOfMemory, TooLarge}
use Rattle.stun_client_calls.proofs.endpoint.ClientEndpoint.write_signed_message.Goals as goal

-- what is refused, if it is not for lack of memory
other_than_memory : {T : Type 0} (result : Result T RequestError) (P Q : Type 0)
    → IfErr result (λ why. (why ≡ OutOfMemory) ⊎ ((why ≡ TooLarge) × P))
    → IfErr result (λ why. (why ≡ TooLarge) × Q) → IfErr result (λ why. (why ≡ TooLarge) × P)
other_than_memory (Ok value) P Q refused granted = tt
other_than_memory (Err why) P Q (inl memory) granted = let large = granted.0 in cc
other_than_memory (Err why) P Q (inr large) granted = large

pub returns-clause-refused : goal.returns-clause-refused
returns-clause-refused g c =
    subst (λ (k : Client). IfErr c.write_request.result (λ why. (why ≡ OutOfMemory)
    ⊎ ((why ≡ TooLarge) × IsErr (request_bytes k.form k.identity k.standing.current c.args.method
    c.args.id c.args.body.now)))) c.self.view_is
    (rw (c.as_ref-signed_for.ensures.value, c.current.ensures) at c.write_request.ensures.refused)

pub returns-clause-granted : goal.returns-clause-granted
returns-clause-granted g c = λ grants.
    other_than_memory c.write_request.result _ _ (returns-clause-refused g c)
    (c.write_request.ensures.granted grants)

pub returns-clause-at_once : goal.returns-clause-at_once
returns-clause-at_once g c = λ long.
    c.write_request.ensures.at_once
    (subst (λ (k : Client). is_text_too_long k.form.software ≡ true) (sym c.self.view_is) long)
