-- What a client's signing adds to a message, one addition after another (RFC 8489, section 9.2.5).
-- Additions are written in this order, and refused in it. `added_by_client` in Signed.antt lists
-- them by attribute, which is what a reader finds. `laws::sides_add_by_attribute` says that both
-- add the same.
use Rattle.std.specs.Prelude.{[]}
use Rattle.std.specs.Prelude.{List, ◌∷◌, ◌++◌, Bool, if◌then◌else◌, Option, Some, None}
use Rattle.std.specs.Option.{option_map}
use Rattle.stun_base.specs.declared.keys.algorithm.IntegrityAlgorithm.{IntegrityAlgorithm}
use Rattle.stun_judging.specs.Additions.{Addition, attribute, integrity}
use Rattle.stun_judging.specs.AddedAttribute as added
use Rattle.stun_judging.specs.Algorithms.{is_sha256}
use Rattle.stun_auth.specs.Client.{Challenge, ClientState, initial, authenticating, authenticated}
use Rattle.stun_judging.specs.Naming.{who_asks}

abbrev pub identity : Challenge → List Addition
identity c = who_asks c.nonce c.realm c.naming

-- the server's list as it was sent, if there is one, and the algorithm chosen from it. SHA-256 is
-- named even without a list
abbrev pub algorithm_choice : List IntegrityAlgorithm → IntegrityAlgorithm → List Addition
algorithm_choice [] algorithm =
    if is_sha256 algorithm then attribute (added.password_algorithm algorithm) ∷ [] else []
algorithm_choice (a ∷ list) algorithm =
    attribute (added.password_algorithms (a ∷ list))
    ∷ attribute (added.password_algorithm algorithm) ∷ []

-- the digest under the stored key
abbrev pub protection : Challenge → List Addition
protection c = integrity c.algorithm c.key ∷ []

-- a request has the identity; messages of every class name the algorithms, and have the digest
abbrev pub challenge_additions : Bool → Challenge → List Addition
challenge_additions request c =
    (if request then identity c else []) ++ algorithm_choice c.algorithms c.algorithm
    ++ protection c

-- the challenge that a client has stored, if it has answered one
abbrev pub kept_challenge : ClientState → Option Challenge
kept_challenge initial = None
kept_challenge (authenticating c) = Some c
kept_challenge (authenticated c) = Some c

-- the algorithm of the digest that signing adds, if it adds one
abbrev pub signing_algorithm : ClientState → Option IntegrityAlgorithm
signing_algorithm state = option_map (λ (c : Challenge). c.algorithm) (kept_challenge state)

-- without a challenge nothing is added
abbrev pub kept_additions : Bool → Option Challenge → List Addition
kept_additions request None = []
kept_additions request (Some c) = challenge_additions request c

-- what signing adds to a request, and to a message of another class
abbrev pub client_additions : Bool → ClientState → List Addition
client_additions request state = kept_additions request (kept_challenge state)
