-- Why a request is not started, and the client once one is.
use Rattle.std.proofs.Common.{◌≡◌, ◌∙◌, ◌⊎◌, ℕ, Bool, true, false, List, Option, Some, None}
use Rattle.std.proofs.Common.{Result, Ok, Err, IsErr, ap, cond, inl, inr, refl, subst, sym}
use Rattle.std.specs.Option.{IfSome, is_none, option_map}
use Rattle.std.specs.Prelude.{IsOkUnless, MatchOption, ⊤}
use Rattle.stun_base.specs.declared.wire.error.StunWriteError.TheVariants.{TooLarge as WriteTooLarge}
use Rattle.stun_client.specs.Ids.{id_of}
use Rattle.stun_client_endpoint.specs.Bodies.{Body}
use Rattle.stun_client_endpoint.specs.Written.{Page?, is_text_too_long, request_bytes, whole_request}
use Rattle.stun_client_endpoint.specs.declared.told.RequestError.{RequestError}
use Rattle.stun_client_endpoint.specs.declared.told.RequestError.TheVariants.{NoId, OutOfMemory}
use Rattle.stun_client_endpoint.specs.declared.told.RequestError.TheVariants.{TooLarge}
use Rattle.stun_client_requests.specs.Requests.{start_refusal}
use Rattle.stun_client_requests.specs.declared.requests.StartRefusal.{StartRefusal}
use Rattle.stun_client_requests.specs.declared.requests.StartRefusal.TheVariants.{OutOfMemory as NoMemory}
use Rattle.stun_client_calls.specs.Clients.{Client, chosen, error_of, first_message, refusal_at_once}
use Rattle.stun_client_calls.specs.Clients.{refusal_of_number, refusal_of_page, refusal_to_start}
use Rattle.stun_client_calls.specs.Clients.{started, started_at, started_by, started_with}
use Rattle.stun_client_calls.specs.Options.{Options, challenge_by, identity_by}

-- what `request` says of an error
abbrev Tells : (T : Type 0) → Client → ℕ → Body → Option Options → Result T RequestError
    → Type 0
Tells T c method body options result =
    MatchOption (refusal_to_start c method body options) (IsOkUnless result OutOfMemory)
    (λ why. (result ≡ Err why) ⊎ (result ≡ Err OutOfMemory))

by_page : (c : Client) (method number : ℕ) (body : Body) (options : Option Options)
    → chosen c ≡ Some number
    → refusal_to_start c method body options ≡ refusal_of_page c number (first_message c method number body options)
by_page c method number body options is = ap (λ (o : Option ℕ). refusal_of_number c method body options o) is

too_large : (c : Client) (number : ℕ) (page : Page?) → IsErr page
    → refusal_of_page c number page ≡ Some TooLarge
too_large c number (Err why) is = refl
too_large c number (Ok bytes) is = cc

tells_refusal : (T : Type 0) (c : Client) (method : ℕ) (body : Body) (options : Option Options)
    (result : Result T RequestError) (why : RequestError)
    → refusal_to_start c method body options ≡ Some why → result ≡ Err why → Tells T c method body options result
tells_refusal T c method body options result why refused is =
    subst (λ (o : Option RequestError). MatchOption o (IsOkUnless result OutOfMemory)
    (λ x. (result ≡ Err x) ⊎ (result ≡ Err OutOfMemory))) (sym refused) (inl is)

pub tells_memory : (T : Type 0) (c : Client) (method : ℕ) (body : Body) (options : Option Options)
    (result : Result T RequestError) → result ≡ Err OutOfMemory → Tells T c method body options result
tells_memory T c method body options result is = by (refusal_to_start c method body options)
  where
    by : (o : Option RequestError) → MatchOption o (IsOkUnless result OutOfMemory)
        (λ x. (result ≡ Err x) ⊎ (result ≡ Err OutOfMemory))
    by None = subst (λ (r : Result T RequestError). IsOkUnless r OutOfMemory) (sym is) refl
    by (Some why) = inr is

-- no bytes are written
pub told_of_bytes : (T : Type 0) (c : Client) (method number : ℕ) (body : Body)
    (options : Option Options) (page : Page?)
    (result : Result T RequestError) (why : RequestError) → chosen c ≡ Some number
    → page ≡ first_message c method number body options → result ≡ Err why
    → (why ≡ OutOfMemory) ⊎ ((why ≡ TooLarge) × IsErr page)
    → Tells T c method body options result
told_of_bytes T c method number body options page result why is same said (inl memory) =
    tells_memory T c method body options result (said ∙ ap Err memory)
told_of_bytes T c method number body options page result why is same said (inr (large, no_page)) =
    tells_refusal T c method body options result TooLarge
    (by_page c method number body options is
    ∙ ap (λ (p : Page?). refusal_of_page c number p) (sym same)
    ∙ too_large c number page no_page)
    (said ∙ ap Err large)

-- the bytes are written, and the request is stored or not
pub told_of_start : (T : Type 0) (c : Client) (method number : ℕ) (body : Body)
    (options : Option Options) (bytes : List ℕ)
    (result : Result T RequestError) → chosen c ≡ Some number
    → first_message c method number body options ≡ Ok bytes
    → MatchOption (option_map error_of (start_refusal c.requests (id_of c.seed number)))
    (IsOkUnless result OutOfMemory) (λ why. result ≡ Err why)
    → Tells T c method body options result
told_of_start T c method number body options bytes result is written said =
    subst (λ (o : Option RequestError). MatchOption o (IsOkUnless result OutOfMemory)
    (λ x. (result ≡ Err x) ⊎ (result ≡ Err OutOfMemory)))
    (sym (by_page c method number body options is
    ∙ ap (λ (p : Page?). refusal_of_page c number p) written))
    (by (option_map error_of (start_refusal c.requests (id_of c.seed number))) said)
  where
    by : (o : Option RequestError)
        → MatchOption o (IsOkUnless result OutOfMemory) (λ why. result ≡ Err why)
        → MatchOption o (IsOkUnless result OutOfMemory)
        (λ x. (result ≡ Err x) ⊎ (result ≡ Err OutOfMemory))
    by None said = said
    by (Some why) said = inl said

-- the request is stored, so nothing refuses it
pub stored_anyway : (o p : Option StartRefusal) (number : ℕ) → o ≡ p
    → MatchOption o ⊤ (λ why. ◌≡◌ {A = Result ℕ StartRefusal} (Ok number) (Err why))
    → MatchOption (option_map error_of p) ⊤ (λ why. ◌≡◌ {A = Result ℕ RequestError} (Ok number) (Err why))
stored_anyway None None number same said = said
stored_anyway None (Some q) number same said = cc
stored_anyway (Some why) p number same said = cc

-- it is not stored, for the reason that the table gives
pub not_stored : (o p : Option StartRefusal) (refusal : StartRefusal) (why : RequestError) → o ≡ p
    → why ≡ error_of refusal
    → MatchOption o (refusal ≡ NoMemory) (λ x. ◌≡◌ {A = Result ℕ StartRefusal} (Err refusal) (Err x))
    → MatchOption (option_map error_of p) (why ≡ OutOfMemory)
    (λ x. ◌≡◌ {A = Result ℕ RequestError} (Err why) (Err x))
not_stored None None refusal why same is said = is ∙ ap error_of said
not_stored None (Some q) refusal why same is said = cc
not_stored (Some o) None refusal why same is said = cc
not_stored (Some o) (Some q) refusal why same is said =
    let from : refusal ≡ o = cc in
    let to : o ≡ q = cc in
    ap Err (is ∙ ap error_of (from ∙ to))

-- what needs no memory to be known does not refuse a request whose bytes are written
pub told_at_once : (T : Type 0) (c : Client) (method number : ℕ) (body : Body)
    (options : Option Options) (bytes : List ℕ)
    (result : Result T RequestError) → chosen c ≡ Some number
    → first_message c method number body options ≡ Ok bytes
    → IfSome (refusal_at_once c) (λ why. result ≡ Err why)
unfolding request_bytes
told_at_once T c method number body options bytes result is written =
    by (chosen c) is (is_text_too_long c.form.software) written
  where
    by : (o : Option ℕ) → o ≡ Some number → (b : Bool)
        → cond b (Err WriteTooLarge) (whole_request c.form (identity_by options c.identity)
        (challenge_by options c.standing.current) method (id_of c.seed number) body) ≡ Ok bytes
        → IfSome (cond (is_none o) (Some NoId) (cond b (Some TooLarge) None)) (λ why. result ≡ Err why)
    by None found b page = cc
    by (Some n) found true page = cc
    by (Some n) found false page = tt

-- a client once a request is started
pub started_so : (c after : Client) (method number now : ℕ) (body : Body) (options : Option Options)
    (bytes : List ℕ)
    → chosen c ≡ Some number → first_message c method number body options ≡ Ok bytes
    → after ≡ started_by c number method body options bytes now → after ≡ started method body options now c
started_so c after method number now body options bytes is written made =
    made
    ∙ sym (ap (λ (o : Option ℕ). started_at c method body options now o) is
    ∙ ap (λ (p : Page?). started_with c number method body options now p) written)
