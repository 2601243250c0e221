-- The parts of an answer to a challenge, as the code has them: the name of a user, and an attribute
-- that signing adds, as its type and value.
use Rattle.std.specs.Prelude.{map, string_bytes}
use Rattle.stun_types.specs.Attribute.{TypedValue}
use Rattle.stun_types.specs.PasswordAlgorithms.{integrity_of}
use Rattle.stun_judging.specs.declared.addition.AddedAttribute.{AddedAttribute}
use Rattle.stun_judging.specs.declared.addition.AddedAttribute.TheVariants.{Nonce, Realm}
use Rattle.stun_judging.specs.declared.addition.AddedAttribute.TheVariants.{Username, Userhash}
use Rattle.stun_judging.specs.declared.addition.AddedAttribute.TheVariants.{PasswordAlgorithms}
use Rattle.stun_judging.specs.declared.addition.AddedAttribute.TheVariants.{PasswordAlgorithm}
use Rattle.stun_judging.specs.AddedAttribute.{nonce, password_algorithm, password_algorithms}
use Rattle.stun_judging.specs.AddedAttribute.{realm, userhash, username}
use Rattle.stun_judging.specs.Naming.{Naming, plain, hashed}
use Rattle.stun_judging.specs.declared.naming.UserNaming.{UserNaming}
use Rattle.stun_judging.specs.declared.naming.UserNaming.TheVariants.{Plain, Hashed}

-- how a user is named
abbrev pub naming_seen : {A : Type 0} → UserNaming A → Naming
naming_seen (Plain name) = plain (string_bytes name)
naming_seen (Hashed hash) = hashed hash

-- the attribute that is added
abbrev pub attribute_of : AddedAttribute → TypedValue
attribute_of (Nonce text) = nonce text.now
attribute_of (Realm text) = realm text.now
attribute_of (Username text) = username text.now
attribute_of (Userhash hash) = userhash hash
attribute_of (PasswordAlgorithms list) = password_algorithms (map integrity_of list.now)
attribute_of (PasswordAlgorithm algorithm) = password_algorithm algorithm
