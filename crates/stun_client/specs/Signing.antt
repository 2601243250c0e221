-- What a client adds to a request to sign it (RFC 8489, sections 9.1.2 and 9.2.5).
use Rattle.std.specs.Prelude.{List, [], ◌∷◌, true, Option, Some, None}
use Rattle.stun_judging.specs.AddedAttribute.{username}
use Rattle.stun_judging.specs.Additions.{Addition, attribute, integrity}
use Rattle.stun_client.specs.Challenge.{challenge_additions}
use Rattle.stun_client.specs.Challenges.{Answered}
use Rattle.stun_client.specs.Judging.{Identity, long_term, short_term, unsigned}

-- with short-term credentials USERNAME and the digest under the password, and with long-term
-- credentials what the challenge asks for
abbrev pub additions_of : Identity → Option Answered → List Addition
additions_of unsigned challenge = []
additions_of (short_term name password algorithm) challenge =
    attribute (username name) ∷ integrity algorithm password ∷ []
additions_of (long_term who p accepts_unsigned) None = []
additions_of (long_term who p accepts_unsigned) (Some c) = challenge_additions true c.challenge

-- the challenge that a request is signed for
abbrev pub challenge_for : Identity → Option Answered → Option Answered
challenge_for unsigned challenge = None
challenge_for (short_term name password algorithm) challenge = None
challenge_for (long_term who p accepts_unsigned) challenge = challenge
