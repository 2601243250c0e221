-- What short-term credentials add, by the fields that they have.
use Rattle.std.specs.Prelude.{List, [], ◌∷◌, string_bytes}
use Rattle.stun_judging.specs.AddedAttribute.{username}
use Rattle.stun_judging.specs.Additions.{Addition, attribute, integrity}
use Rattle.stun_client.specs.declared.credentials.ShortTerm.{ShortTerm}

-- USERNAME and the digest under the password
abbrev pub short_term_additions : {A : Type 0} → ShortTerm A → List Addition
short_term_additions s =
    attribute (username (string_bytes s.name)) ∷ integrity s.algorithm s.password ∷ []
