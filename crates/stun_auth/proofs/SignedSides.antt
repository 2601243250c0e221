-- What client and server add, by attribute.
use Rattle.std.proofs.Common.{◌≡◌, Bool, true, false, List, [], ◌∷◌}
use Rattle.std.proofs.Common.{◌++◌, ℕ, Ok, Err, refl, sym, ◌∙◌, ap}
use Rattle.std.specs.Prelude.{Option, Some, None, Result, IsOk}
use Rattle.std.specs.Option.{IsSome, option_map}
use Rattle.stun_base.specs.declared.keys.algorithm.IntegrityAlgorithm.{IntegrityAlgorithm}
use Rattle.stun_base.specs.declared.keys.algorithm.IntegrityAlgorithm.TheVariants.{Sha1, Sha256}
use Rattle.stun_base.specs.declared.wire.error.StunWriteError.{StunWriteError}
use Rattle.stun_judging.specs.Additions.{Page, added_all, after, integrity}
use Rattle.stun_judging.specs.Naming.{Naming, plain, hashed}
use Rattle.stun_auth.specs.Client.{ClientState, initial, authenticating, authenticated}
use Rattle.stun_auth.specs.ClientSigning.{challenge_additions, client_additions}
use Rattle.stun_judging.specs.Registered.{Registered, key_at}
use Rattle.stun_judging.specs.Verdict.{ClientSeen}
use Rattle.stun_auth.specs.Seen.{PlaceSeen}
use Rattle.stun_auth.specs.Server.{Sight}
use Rattle.stun_auth.specs.ServerSigning.{attributes_for, signed_under_key}
use Rattle.stun_auth.specs.ServerSigning.{protected_for, server_signed, signed_at}
use Rattle.stun_judging.specs.Signed.{Added, additions_of, nothing}
use Rattle.stun_auth.specs.Signed.{added_at, added_by_client, added_by_server, added_for}
use Rattle.stun_auth.specs.Signed.{added_under, added_under_key, added_without_client}
use Rattle.stun_judging.proofs.AdditionLemmas.{added_all-append}

challenge_parts : (request : Bool) (naming : Naming) (realm nonce : List ℕ)
    (algorithms : List IntegrityAlgorithm) (algorithm : IntegrityAlgorithm) (key : List ℕ)
    → challenge_additions request
    (record {
      naming = naming;
      realm = realm;
      nonce = nonce;
      algorithms = algorithms;
      algorithm = algorithm;
      key = key;
    })
    ≡ additions_of
    (added_under request
    (record {
      naming = naming;
      realm = realm;
      nonce = nonce;
      algorithms = algorithms;
      algorithm = algorithm;
      key = key;
    }))
challenge_parts true (plain name) realm nonce [] Sha1 key = refl
challenge_parts true (plain name) realm nonce [] Sha256 key = refl
challenge_parts true (plain name) realm nonce (a ∷ list) Sha1 key = refl
challenge_parts true (plain name) realm nonce (a ∷ list) Sha256 key = refl
challenge_parts true (hashed hash) realm nonce [] Sha1 key = refl
challenge_parts true (hashed hash) realm nonce [] Sha256 key = refl
challenge_parts true (hashed hash) realm nonce (a ∷ list) Sha1 key = refl
challenge_parts true (hashed hash) realm nonce (a ∷ list) Sha256 key = refl
challenge_parts false naming realm nonce [] Sha1 key = refl
challenge_parts false naming realm nonce [] Sha256 key = refl
challenge_parts false naming realm nonce (a ∷ list) Sha1 key = refl
challenge_parts false naming realm nonce (a ∷ list) Sha256 key = refl

-- a client's additions
pub client_same : (request : Bool) (state : ClientState)
    → client_additions request state ≡ additions_of (added_by_client request state)
client_same request initial = refl
client_same request (authenticating c) =
    challenge_parts request c.naming c.realm c.nonce c.algorithms c.algorithm c.key
client_same request (authenticated c) =
    challenge_parts request c.naming c.realm c.nonce c.algorithms c.algorithm c.key

after_nothing : (r : Result Page StunWriteError) → after r (λ page. Ok page) ≡ r
after_nothing (Ok page) = refl
after_nothing (Err reason) = refl

-- to an address without a client
without_client : (response : Bool) (users : Registered) (nonce : List ℕ)
    → attributes_for response users nonce None
    ≡ additions_of (added_without_client response users nonce)
without_client true users nonce = refl
without_client false users nonce = refl

-- to a client, under a key
under_key : (response : Bool) (users : Registered) (nonce name : List ℕ)
    (algorithm : IntegrityAlgorithm) (key : List ℕ)
    → attributes_for response users nonce (Some (record { name = name; algorithm = algorithm }))
    ++ integrity algorithm key ∷ []
    ≡ additions_of (added_under_key response users nonce algorithm key)
under_key true users nonce name Sha1 key = refl
under_key true users nonce name Sha256 key = refl
under_key false users nonce name Sha1 key = refl
under_key false users nonce name Sha256 key = refl

there : {X : Type 0} (x y : X) → Some x ≡ Some y → x ≡ y
there x y same = cc

for_client : (response : Bool) (users : Registered) (nonce : List ℕ) (client : Option ClientSeen)
    (page : Page) (a : Added) → added_for response users nonce client ≡ Some a
    → after (added_all (attributes_for response users nonce client) page)
    (protected_for users client) ≡ added_all (additions_of a) page
for_client response users nonce None page a is =
    after_nothing (added_all (attributes_for response users nonce None) page)
    ∙ (ap (λ list. added_all list page) (without_client response users nonce)
    ∙ ap (λ (b : Added). added_all (additions_of b) page)
    (there (added_without_client response users nonce) a is))
for_client response users nonce (Some c) page a is =
    elim (key_at users c.name c.algorithm) as (λ (key : Option (List ℕ)).
    option_map (added_under_key response users nonce c.algorithm) key ≡ Some a
    → after (added_all (attributes_for response users nonce (Some c)) page)
    (signed_under_key c.algorithm key) ≡ added_all (additions_of a) page) [
      | None ↦ λ is. absurd (cc)
      | Some key ↦ λ is.
          sym (added_all-append (attributes_for response users nonce (Some c))
          (integrity c.algorithm key ∷ []) page)
          ∙ (ap (λ list. added_all list page)
          (under_key response users nonce c.name c.algorithm key)
          ∙ ap (λ (b : Added). added_all (additions_of b) page)
          (there (added_under_key response users nonce c.algorithm key) a is))
    ] is

page_of_place : (response : Bool) (users : Registered) (place : Option PlaceSeen) (page : Page)
    (a : Added) → added_at response users place ≡ Some a
    → signed_at response users place page ≡ added_all (additions_of a) page
page_of_place response users None page a is =
    ap (λ (b : Added). added_all (additions_of b) page) (there nothing a is)
page_of_place response users (Some p) page a is =
    for_client response users p.nonce p.client page a is

-- a server's additions
pub server_same : (s : Sight) (response : Bool) (page : Page) (a : Added)
    → added_by_server s response ≡ Some a
    → server_signed s response page ≡ added_all (additions_of a) page
server_same s response page a is = page_of_place response s.registered s.place page a is

refused_last : {X : Type 0} (algorithm : IntegrityAlgorithm) (r : Result Page StunWriteError)
    → IsOk (after r (signed_under_key algorithm None)) → X
refused_last algorithm (Ok page) ok = absurd (cc)
refused_last algorithm (Err reason) ok = absurd (cc)

-- what is signed was there to be added
client_there : (response : Bool) (users : Registered) (nonce : List ℕ) (client : Option ClientSeen)
    (page : Page)
    → IsOk (after (added_all (attributes_for response users nonce client) page)
    (protected_for users client)) → IsSome (added_for response users nonce client)
client_there response users nonce None page ok = refl
client_there response users nonce (Some c) page ok =
    elim (key_at users c.name c.algorithm) as (λ (key : Option (List ℕ)).
    IsOk (after (added_all (attributes_for response users nonce (Some c)) page)
    (signed_under_key c.algorithm key))
    → IsSome (option_map (added_under_key response users nonce c.algorithm) key)) [
      | None ↦ λ ok. refused_last c.algorithm
          (added_all (attributes_for response users nonce (Some c)) page) ok
      | Some key ↦ λ ok. refl
    ] ok

place_there : (response : Bool) (users : Registered) (place : Option PlaceSeen) (page : Page)
    → IsOk (signed_at response users place page) → IsSome (added_at response users place)
place_there response users None page ok = refl
place_there response users (Some p) page ok = client_there response users p.nonce p.client page ok

pub server_there : (s : Sight) (response : Bool) (page : Page)
    → IsOk (server_signed s response page) → IsSome (added_by_server s response)
server_there s response page ok = place_there response s.registered s.place page ok
