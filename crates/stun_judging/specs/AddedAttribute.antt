-- The attributes that signing adds (RFC 8489, sections 9.2.3 to 9.2.5), by their types and values.
use Rattle.std.specs.Prelude.{ℕ, List, map}
use Rattle.stun_base.specs.Attributes.{USERNAME, REALM, NONCE, USERHASH}
use Rattle.stun_base.specs.Attributes.{PASSWORD_ALGORITHM, PASSWORD_ALGORITHMS}
use Rattle.stun_base.specs.declared.keys.algorithm.IntegrityAlgorithm.{IntegrityAlgorithm}
use Rattle.stun_types.specs.Attribute.{TypedValue}
use Rattle.stun_types.specs.PasswordAlgorithms.{password_algorithm_of}
use Rattle.stun_types.specs.PasswordAlgorithms.{spelled_entries, spelled_entry}

abbrev pub nonce : List ℕ → TypedValue
nonce text = record { kind = NONCE; value = text }

abbrev pub realm : List ℕ → TypedValue
realm text = record { kind = REALM; value = text }

abbrev pub username : List ℕ → TypedValue
username text = record { kind = USERNAME; value = text }

abbrev pub userhash : List ℕ → TypedValue
userhash hash = record { kind = USERHASH; value = hash }

-- the password algorithms that make the keys of these algorithms
abbrev pub password_algorithms : List IntegrityAlgorithm → TypedValue
password_algorithms list =
    record { kind = PASSWORD_ALGORITHMS; value = spelled_entries (map password_algorithm_of list) }

abbrev pub password_algorithm : IntegrityAlgorithm → TypedValue
password_algorithm algorithm =
    record { kind = PASSWORD_ALGORITHM; value = spelled_entry (password_algorithm_of algorithm) }
