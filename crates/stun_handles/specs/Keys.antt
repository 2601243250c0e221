-- The stored keys of a user as a caller passes them (RFC 8489, sections 9.2.2 and 18.5.1).
use Rattle.std.specs.Prelude.{ℕ, List, ◌==◌, if◌then◌else◌, length, Option, Some, None}
use Rattle.std.specs.Prelude.{Result, Ok, Err}
use Rattle.stun_judging.specs.declared.stored_keys.StoredKeys.{StoredKeys}
use Rattle.stun_numbers.specs.declared.refusal.Refusal.{Refusal}
use Rattle.stun_numbers.specs.declared.refusal.Refusal.TheVariants.{BadArgument}

-- a stored key of this many bytes: none if it has no bytes, and an error if it has another length
abbrev pub key_given : ℕ → List ℕ → Result (Option (List ℕ)) Refusal
key_given size key =
    if length key == 0 then Ok None
    else if length key == size then Ok (Some key) else Err BadArgument

-- both keys, or the first error
abbrev pub keys_given : Result (Option (List ℕ)) Refusal → Result (Option (List ℕ)) Refusal
    → Result StoredKeys Refusal
keys_given (Err refusal) sha256 = Err refusal
keys_given (Ok sha1) (Err refusal) = Err refusal
keys_given (Ok sha1) (Ok sha256) = Ok (record { sha1 = sha1; sha256 = sha256 })
