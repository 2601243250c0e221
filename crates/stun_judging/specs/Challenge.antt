-- What a server adds to a response so that the client can sign its next request (RFC 8489, section
-- 9.2.4).
use Rattle.std.specs.Prelude.{[]}
use Rattle.std.specs.Prelude.{ℕ, List, ◌∷◌, ◌++◌, Bool, true, if◌then◌else◌}
use Rattle.stun_judging.specs.Additions.{Addition, attribute}
use Rattle.stun_judging.specs.AddedAttribute as added
use Rattle.stun_judging.specs.Algorithms.{algorithms_of}
use Rattle.stun_judging.specs.Nonces.{asks_for_algorithms}
use Rattle.stun_judging.specs.Registered.{Registered}

-- nonce and realm, which a response carries
abbrev pub challenge : Bool → Registered → List ℕ → List Addition
challenge response users nonce =
    if response then attribute (added.nonce nonce) ∷ attribute (added.realm users.realm) ∷ []
    else []

-- the algorithms that a response offers if no client is known, the strongest first
abbrev pub offer : Bool → Registered → List Addition
offer response users =
    if response then attribute (added.password_algorithms (algorithms_of users.algorithms)) ∷ []
    else []

-- the attributes that a client needs in a response to sign its next request under a nonce: nonce
-- and realm, and the algorithms if the nonce asks for a choice. A server that lists algorithms must
-- set that security bit
abbrev pub challenge_under : Registered → List ℕ → List Addition
challenge_under users nonce = challenge true users nonce ++ offer (asks_for_algorithms nonce) users
