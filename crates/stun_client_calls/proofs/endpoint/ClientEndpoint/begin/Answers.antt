-- A request is not started because no bytes of it are written, or because it is not stored.
use Rattle.std.proofs.Common.{◌≡◌, ◌∙◌, ◌<◌, ℕ, Err, Ok, Result, ap, refl, rules, subst, sym}
use Rattle.std.specs.Option.{option_map}
use Rattle.std.specs.Prelude.{IsErr, IsOkUnless, MatchOption}
use Rattle.stun_agent.specs.Transactions.{IsRequestOf}
use Rattle.stun_client_endpoint.specs.Written.{request_bytes}
use Rattle.stun_client_endpoint.specs.declared.told.RequestError.{RequestError}
use Rattle.stun_client_endpoint.specs.declared.told.RequestError.TheVariants.{OutOfMemory}
use Rattle.stun_client_requests.specs.Requests.{start_refusal}
use Rattle.stun_client_calls.specs.Clients.{error_of, first_message}
use Rattle.stun_client_calls.specs.Options.{challenge_by, identity_by, options_of}
use Rattle.stun_client_calls.proofs.GrantedLemmas.{is_chosen, is_stored, is_written}
use Rattle.stun_client_calls.proofs.HeaderLemmas.{is_request}
use Rattle.stun_client_calls.proofs.RequestingLemmas.{tells_memory, told_at_once, told_of_start}
use Rattle.stun_client_calls.proofs.endpoint.ClientEndpoint.begin.Goals as goal

pub returns-in_default-make_first_asked-clause-refused : goal.returns-in_default-make_first_asked-clause-refused
returns-in_default-make_first_asked-clause-refused g c =
    tells_memory ℕ c.args.self.now c.args.method c.args.body (option_map options_of c.args.options) (Err OutOfMemory) refl

pub returns-in_default-make_first_asked-clause-at_once : goal.returns-in_default-make_first_asked-clause-at_once
returns-in_default-make_first_asked-clause-at_once g c =
    let written : first_message c.args.self.now c.args.method c.in-Some.free.number c.args.body
    (option_map options_of c.args.options) ≡ Ok c.in_ok-bytes.bytes.items = search rules in
    told_at_once ℕ c.args.self.now c.args.method c.in-Some.free.number c.args.body
    (option_map options_of c.args.options) c.in_ok-bytes.bytes.items (Err OutOfMemory) (sym c.in-Some.ensures.chosen) written

pub start-requires-clause-named : goal.start-requires-clause-named
start-requires-clause-named g c =
    let written : first_message c.args.self.now c.args.method c.in-Some.free.number c.args.body
    (option_map options_of c.args.options) ≡ Ok c.in_ok-bytes.bytes.items = search rules in
    subst (λ id. IsRequestOf id c.in_ok-bytes.bytes.items) (sym c.in-Some.ensures.named)
    (is_request c.args.self.now.form
    (identity_by (option_map options_of c.args.options) c.args.self.now.identity)
    (challenge_by (option_map options_of c.args.options) c.args.self.now.standing.current)
    c.args.method c.in-Some.free.number c.args.self.now.seed c.args.body c.in_ok-bytes.bytes.items
    (subst (λ k. k < 4096) c.value.ensures.value c.value.ensures.fits) written)

pub returns-clause-refused : goal.returns-clause-refused
returns-clause-refused g c =
    let written : first_message c.args.self.now c.args.method c.in-Some.free.number c.args.body
    (option_map options_of c.args.options) ≡ Ok c.in_ok-bytes.bytes.items = search rules in
    told_of_start ℕ c.args.self.now c.args.method c.in-Some.free.number c.args.body
    (option_map options_of c.args.options) c.in_ok-bytes.bytes.items c.start.result (sym c.in-Some.ensures.chosen) written
    (subst (λ id. MatchOption (option_map error_of (start_refusal c.args.self.now.requests id))
    (IsOkUnless c.start.result OutOfMemory)
    (λ why. ◌≡◌ {A = Result ℕ RequestError} c.start.result (Err why)))
    c.in-Some.ensures.named c.start.ensures.refused)

pub returns-clause-at_once : goal.returns-clause-at_once
returns-clause-at_once g c =
    let written : first_message c.args.self.now c.args.method c.in-Some.free.number c.args.body
    (option_map options_of c.args.options) ≡ Ok c.in_ok-bytes.bytes.items = search rules in
    told_at_once ℕ c.args.self.now c.args.method c.in-Some.free.number c.args.body
    (option_map options_of c.args.options) c.in_ok-bytes.bytes.items c.start.result (sym c.in-Some.ensures.chosen) written

pub returns-in_default-clause-granted : goal.returns-in_default-clause-granted
returns-in_default-clause-granted g c =
    λ grants none. is_chosen c.args.self.now c.args.method c.args.body
    (option_map options_of c.args.options) (sym c.in_default.ensures.chosen) none

pub returns-clause-granted : goal.returns-clause-granted
returns-clause-granted g c =
    let written : first_message c.args.self.now c.args.method c.in-Some.free.number c.args.body
    (option_map options_of c.args.options) ≡ Ok c.in_ok-bytes.bytes.items = search rules in
    λ grants none. c.start.ensures.granted grants
    (ap (λ id. start_refusal c.args.self.now.requests id) c.in-Some.ensures.named
    ∙ is_stored c.args.self.now c.args.method c.in-Some.free.number c.args.body
    (option_map options_of c.args.options) c.in_ok-bytes.bytes.items (sym c.in-Some.ensures.chosen)
    written none)

pub returns-in_err-bytes-clause-granted : goal.returns-in_err-bytes-clause-granted
returns-in_err-bytes-clause-granted g c =
    λ grants none. is_written c.args.self.now c.args.method c.in-Some.free.number c.args.body
    (option_map options_of c.args.options) (sym c.in-Some.ensures.chosen) none
    (subst (λ id. IsErr (request_bytes c.args.self.now.form
    (identity_by (option_map options_of c.args.options) c.args.self.now.identity)
    (challenge_by (option_map options_of c.args.options) c.args.self.now.standing.current)
    c.args.method id c.args.body)) c.in-Some.ensures.named (c.in_err-bytes.ensures.granted grants).1)
