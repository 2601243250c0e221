-- The user who was found, as the code reads it, and what judges with that user.
use Rattle.std.specs.Prelude.{ℕ, List, Bool, if◌then◌else◌, Some, Result, Ok, Err}
use Rattle.stun_judging.specs.Named.{just}
use Rattle.stun_judging.specs.Registered.{RegisteredUser, of_password, user_by_keys}
use Rattle.stun_judging.specs.Registered.{user_by_password}
use Rattle.stun_judging.specs.declared.stored_keys.StoredKeys.{StoredKeys}
use Rattle.stun_endpoint.specs.Realm.{table_of}
use Rattle.stun_endpoint.specs.Settings.{Settings, registered_of}
use Rattle.stun_handles.specs.Answers.{text_refusal, texts_refusal}
use Rattle.stun_handles.specs.Keys.{key_given, keys_given}
use Rattle.stun_numbers.specs.Refusals.{refusal_or}
use Rattle.stun_numbers.specs.declared.refusal.Refusal.{Refusal}
use Rattle.stun_c_endpoint.specs.Kept.{Judge, by_realm}
use Rattle.stun_c_endpoint.specs.Users.{name_refusal, no_key_refusal, password_refusal}

-- a user with a password, unless the texts are refused
abbrev pub password_user : List ℕ → List ℕ → Result RegisteredUser Refusal
password_user name password =
    refusal_or (texts_refusal name password)
    (refusal_or (name_refusal name)
    (refusal_or (password_refusal password)
    (Ok (user_by_password (record { username = name; password = password })))))

-- a user with stored keys, if they are keys
abbrev pub named_user : List ℕ → Result StoredKeys Refusal → Result RegisteredUser Refusal
named_user name (Ok keys) = Ok (user_by_keys name keys)
named_user name (Err refusal) = Err refusal

abbrev pub key_user : List ℕ → List ℕ → List ℕ → Result RegisteredUser Refusal
key_user name sha1 sha256 =
    refusal_or (text_refusal name)
    (refusal_or (name_refusal name)
    (refusal_or (no_key_refusal sha1 sha256)
    (named_user name (keys_given (key_given 16 sha1) (key_given 32 sha256)))))

-- the one of these two that was passed
abbrev pub found_user : List ℕ → List ℕ → Bool → List ℕ → List ℕ → Result RegisteredUser Refusal
found_user name password has_password sha1 sha256 =
    if has_password then password_user name password else key_user name sha1 sha256

-- a server with a table of only this user
abbrev pub found_judge : Settings → RegisteredUser → Judge
found_judge s user = by_realm s (record (table_of s) {
  registered = just (registered_of s) (Some user);
})
