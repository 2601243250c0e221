-- A message grows by what is added to it.
use Rattle.std.proofs.Common.{[]}
use Rattle.std.proofs.Common.{◌≡◌, ℕ, ◌+◌, ◌<◌, ◌≤◌, Bool, List}
use Rattle.std.proofs.Common.{◌∷◌, ◌++◌, length, Option, Some, None, Result, Ok}
use Rattle.std.proofs.Common.{Err, refl, ap, arith}
use Rattle.std.proofs.lemmas.List.Sums.{sum_by-cons}
use Rattle.stun_base.specs.Algorithm.{digest_length}
use Rattle.stun_base.specs.declared.keys.algorithm.IntegrityAlgorithm.{IntegrityAlgorithm}
use Rattle.stun_base.specs.declared.wire.error.StunWriteError.{StunWriteError}
use Rattle.stun_base.specs.declared.wire.error.StunWriteError.TheVariants.{IntegrityFailed}
use Rattle.stun_types.specs.Attribute.{attribute_length}
use Rattle.stun_judging.specs.Additions.{Addition, integrity, Page, growth_of, growth, after}
use Rattle.stun_judging.specs.Additions.{added_all, WantsMemory}
use Rattle.stun_judging.specs.Registered.{Registered, key_at}
use Rattle.stun_judging.specs.Verdict.{ClientSeen}
use Rattle.stun_auth.specs.Seen.{PlaceSeen}
use Rattle.stun_auth.specs.Server.{Sight}
use Rattle.stun_auth.specs.ServerSigning.{additions_at, attributes_for, digest_for, digest_under}
use Rattle.stun_auth.specs.ServerSigning.{growth_at, signed_under_key, protected_for}
use Rattle.stun_auth.specs.ServerSigning.{protection_growth}
use Rattle.stun_auth.specs.ServerSigning.{server_additions, server_growth, server_signed, signed_at}
use Rattle.stun_judging.proofs.AdditionLemmas.{growth-append}
use Rattle.stun_judging.proofs.Growth.{grown_all, wants_short}

-- ---- the server

grown_protected : (a : IntegrityAlgorithm) (key : Option (List ℕ)) (m q : Page)
    → 20 ≤ length m.bytes → signed_under_key a key m ≡ Ok q
    → length q.bytes ≡ length m.bytes + attribute_length (digest_length a)
grown_protected a None m q long h = absurd (let clash : Err IntegrityFailed ≡ Ok q = h in cc)
grown_protected a (Some key) m q long h =
    let all = grown_all (integrity a key ∷ []) m q long h in
    let sum = sum_by-cons growth_of (integrity a key) [] in
    omega (arith, all, sum)

grown_for : (users : Registered) (client : Option ClientSeen) (m q : Page) → 20 ≤ length m.bytes
    → protected_for users client m ≡ Ok q
    → length q.bytes ≡ length m.bytes + protection_growth client
grown_for users None m q long h =
    let same : m ≡ q = cc in
    omega (arith, ap (λ (r : Page). length r.bytes) same)
grown_for users (Some c) m q long h =
    grown_protected c.algorithm (key_at users c.name c.algorithm) m q long h

grown_then : (list : List Addition) (users : Registered) (client : Option ClientSeen) (p q : Page)
    → 20 ≤ length p.bytes → (first : Result Page StunWriteError) → added_all list p ≡ first
    → after first (protected_for users client) ≡ Ok q
    → length q.bytes ≡ length p.bytes + (growth list + protection_growth client)
grown_then list users client p q long (Err reason) e h =
    absurd (let clash : Err reason ≡ Ok q = h in cc)
grown_then list users client p q long (Ok m) e h =
    let before = grown_all list p m long e in
    let last = grown_for users client m q (omega (arith, before, long)) h in
    omega (arith, before, last)

grown_at : (response : Bool) (users : Registered) (place : Option PlaceSeen) (p q : Page)
    → 20 ≤ length p.bytes → signed_at response users place p ≡ Ok q
    → length q.bytes ≡ length p.bytes + growth_at response users place
grown_at response users None p q long h =
    let same : p ≡ q = cc in
    omega (arith, ap (λ (r : Page). length r.bytes) same)
grown_at response users (Some place) p q long h =
    grown_then (attributes_for response users place.nonce place.client) users place.client p q long
    (added_all (attributes_for response users place.nonce place.client) p) refl h

-- a message that a server signed is longer by what signing adds
pub grown_by_server : (s : Sight) (response : Bool) (p q : Page) → 20 ≤ length p.bytes
    → server_signed s response p ≡ Ok q → length q.bytes ≡ length p.bytes + server_growth s response
grown_by_server s response p q long h = grown_at response s.registered s.place p q long h

digest_short : (a : IntegrityAlgorithm) (key : Option (List ℕ))
    → growth (digest_under a key) ≤ attribute_length (digest_length a)
digest_short a None = omega arith
digest_short a (Some key) = let sum =
    sum_by-cons growth_of (integrity a key) [] in omega (arith, sum)

digest_for_short : (users : Registered) (client : Option ClientSeen)
    → growth (digest_for users client) ≤ protection_growth client
digest_for_short users None = omega arith
digest_for_short users (Some c) = digest_short c.algorithm (key_at users c.name c.algorithm)

place_wants_short : (response : Bool) (users : Registered) (place : Option PlaceSeen) (page : Page)
    (reserved : ℕ)
    → WantsMemory (additions_at response users place) page reserved
    → reserved < growth_at response users place
place_wants_short response users None page reserved w = wants_short [] page reserved w
place_wants_short response users (Some p) page reserved w =
    let attributes = attributes_for response users p.nonce p.client in
    let digest = digest_for users p.client in
    omega (
      arith,
      wants_short (attributes ++ digest) page reserved w,
      growth-append attributes digest,
      digest_for_short users p.client,
    )

pub server_wants_short : (s : Sight) (response : Bool) (page : Page) (reserved : ℕ)
    → WantsMemory (server_additions s response) page reserved → reserved < server_growth s response
server_wants_short s response page reserved w =
    place_wants_short response s.registered s.place page reserved w

-- where nothing else refuses and what is taken was reserved, nothing is refused
