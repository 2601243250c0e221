-- Which client is accepted by a server that stores nothing about an address. The words of its
-- nonces are a function of the address and of an epoch, and the nonce of the epoch before is
-- accepted too.
use Rattle.std.specs.Prelude.{ℕ, zero, suc, List, Some, ◌⊎◌}
use Rattle.std.specs.declared.result.Result.{Result}
use Rattle.stun_judging.specs.declared.refusal.VerdictRefusal.{VerdictRefusal}
use Rattle.stun_auth.specs.Judged.{verdict_by_nonce}
use Rattle.stun_judging.specs.Nonces.{nonce_of}
use Rattle.stun_judging.specs.Reading.{Reading}
use Rattle.stun_judging.specs.Verdict.{ClientSeen, IsAccepted, or_before}
use Rattle.stun_auth.specs.Validation.{ServerSeen}

-- the nonce of an epoch, by the words of each epoch at one address
abbrev pub nonce_in : ServerSeen → (ℕ → List ℕ) → ℕ → List ℕ
nonce_in s words epoch = nonce_of s.registered.algorithms s.feature (words epoch)

-- the verdict in an epoch
abbrev pub judged_in : ServerSeen → (ℕ → List ℕ) → ℕ → Reading → Result ClientSeen VerdictRefusal
judged_in s words zero r = verdict_by_nonce s (nonce_in s words 0) r
judged_in s words (suc e) r =
    or_before (verdict_by_nonce s (nonce_in s words (suc e)) r)
    (verdict_by_nonce s (nonce_in s words e) r)

-- a client is accepted under the nonce of an epoch
abbrev pub IsAcceptedAt : ServerSeen → (ℕ → List ℕ) → ℕ → Reading → ClientSeen → Type 0
IsAcceptedAt s words epoch r client =
    IsAccepted s.registered s.feature (nonce_in s words epoch) (Some s.registered.algorithms) r
    client

-- a client is accepted in an epoch: under its nonce, or under that of the epoch before
abbrev pub IsAcceptedIn : ServerSeen → (ℕ → List ℕ) → ℕ → Reading → ClientSeen → Type 0
IsAcceptedIn s words zero r client = IsAcceptedAt s words 0 r client
IsAcceptedIn s words (suc e) r client =
    IsAcceptedAt s words (suc e) r client ⊎ IsAcceptedAt s words e r client
