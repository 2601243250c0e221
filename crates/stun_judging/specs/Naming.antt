-- How a client names its user (RFC 8489, section 9.2.5).
use Rattle.std.specs.Prelude.{ℕ, List, [], ◌∷◌, Bool, true, false}
use Rattle.stun_base.specs.Keys.{userhash_of}
use Rattle.stun_types.specs.Attribute.{TypedValue}
use Rattle.stun_judging.specs.AddedAttribute as added
use Rattle.stun_judging.specs.Additions.{Addition, attribute}

-- how a client names its user: by USERNAME or by USERHASH (section 9.2.5)
pub data Naming : Type 0 where
  plain : List ℕ → Naming
  hashed : List ℕ → Naming

-- the name of the user
abbrev pub name_attribute : Naming → TypedValue
name_attribute (plain name) = added.username name
name_attribute (hashed hash) = added.userhash hash

-- the identity in a request: nonce, realm and name
abbrev pub who_asks : List ℕ → List ℕ → Naming → List Addition
who_asks nonce realm naming =
    attribute (added.nonce nonce) ∷ attribute (added.realm realm)
    ∷ attribute (name_attribute naming) ∷ []

-- a user by name, or by the hash of the name
abbrev pub naming_of : Bool → List ℕ → List ℕ → Naming
naming_of true username realm = hashed (userhash_of username realm)
naming_of false username realm = plain username
