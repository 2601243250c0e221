-- The table of users after a call, and why a call fails (RFC 8489, section 9.2.2).
use Rattle.std.specs.Prelude.{◌≡◌, ◌==◌, ◌&&◌, ℕ, ℤ, pos, List, length, nat_lt, if◌then◌else◌, Option}
use Rattle.std.specs.Prelude.{Some, None}
use Rattle.std.specs.Prelude.{Result, Ok, Err}
use Rattle.std.specs.FinMap as map
use Rattle.stun_endpoint.specs.Realm.{table_of}
use Rattle.stun_judging.specs.Registered.{with_user, with_user_by_keys, without_user}
use Rattle.stun_judging.specs.Realm.{RealmSeen}
use Rattle.stun_judging.specs.declared.stored_keys.StoredKeys.{StoredKeys}
use Rattle.stun_types.specs.Limits.{USERNAME_LIMIT}
use Rattle.stun_handles.specs.Answers.{text_refusal, texts_refusal}
use Rattle.stun_handles.specs.Keys.{key_given, keys_given}
use Rattle.stun_handles.specs.Numbers.{OrOutOfMemory}
use Rattle.stun_numbers.specs.Refusals.{refusal_number, refusal_or}
use Rattle.stun_numbers.specs.declared.refusal.Refusal.{Refusal}
use Rattle.stun_numbers.specs.declared.refusal.Refusal.TheVariants.{BadArgument, TextTooLong}
use Rattle.stun_numbers.specs.declared.refusal.Refusal.TheVariants.{WrongHandle}
use Rattle.stun_c_endpoint.specs.declared.handle.endpoint.Kept.{Kept}
use Rattle.stun_c_endpoint.specs.declared.handle.endpoint.Kept.TheVariants.{Checker, Server, Users}
use Rattle.stun_c_endpoint.specs.declared.handle.endpoint.Kept.TheVariants.{Open, ShortTerm}
use Rattle.stun_c_endpoint.specs.declared.handle.endpoint.Kept.TheVariants.{Client, ShortTermUsers}

-- a user has a name, because a client without one could not be told from others, and no USERNAME
-- carries a longer name (section 14.3)
abbrev pub name_refusal : List ℕ → Option Refusal
name_refusal name =
    if length name == 0 then Some BadArgument
    else if nat_lt USERNAME_LIMIT (length name) then Some TextTooLong else None

-- a password without bytes is one that was never set
abbrev pub password_refusal : List ℕ → Option Refusal
password_refusal password = if length password == 0 then Some BadArgument else None

-- a user without any key could never send a request that is accepted
abbrev pub no_key_refusal : List ℕ → List ℕ → Option Refusal
no_key_refusal sha1 sha256 =
    if (length sha1 == 0) && (length sha256 == 0) then Some BadArgument else None

-- a table with a user with a password
abbrev pub added : RealmSeen → List ℕ → List ℕ → RealmSeen
added u name password = record u {
  registered = with_user u.registered (record { username = name; password = password });
}

-- a table after a user is added, unless the texts are refused, the password last
abbrev pub unless_refused : List ℕ → List ℕ → Kept → Result Kept Refusal
unless_refused name password table =
    refusal_or (texts_refusal name password)
    (refusal_or (name_refusal name) (refusal_or (password_refusal password) (Ok table)))

-- a table of each kind after a user is added. With short-term credentials the key is the password
-- (section 9.1.1)
abbrev pub adding : List ℕ → List ℕ → Kept → Result Kept Refusal
adding name password (Users u) = unless_refused name password (Users (added u name password))
adding name password (ShortTermUsers u) =
    unless_refused name password (ShortTermUsers (map.insert u name password))
adding name password (Server s) = Err WrongHandle
adding name password (Open s) = Err WrongHandle
adding name password (ShortTerm s) = Err WrongHandle
adding name password (Checker a) = Err WrongHandle
adding name password (Client c) = Err WrongHandle

-- a table with a user with stored keys
abbrev pub keys_added : RealmSeen → List ℕ → Result StoredKeys Refusal → Result Kept Refusal
keys_added u name (Ok keys) = Ok (Users (record u {
  registered = with_user_by_keys u.registered name keys;
}))
keys_added u name (Err refusal) = Err refusal

-- a table after a user with stored keys is added: a name that is not a text, is empty or is too long
-- fails, and then two missing keys, and then a key of another length
abbrev pub with_stored : RealmSeen → List ℕ → List ℕ → List ℕ → Result Kept Refusal
with_stored u name sha1 sha256 =
    refusal_or (text_refusal name)
    (refusal_or (name_refusal name)
    (refusal_or (no_key_refusal sha1 sha256)
    (keys_added u name (keys_given (key_given 16 sha1) (key_given 32 sha256)))))

-- only users of a realm have stored keys
abbrev pub adding_keys : List ℕ → List ℕ → List ℕ → Kept → Result Kept Refusal
adding_keys name sha1 sha256 (Users u) = with_stored u name sha1 sha256
adding_keys name sha1 sha256 (Server s) = Err WrongHandle
adding_keys name sha1 sha256 (Open s) = Err WrongHandle
adding_keys name sha1 sha256 (ShortTerm s) = Err WrongHandle
adding_keys name sha1 sha256 (ShortTermUsers u) = Err WrongHandle
adding_keys name sha1 sha256 (Checker a) = Err WrongHandle
adding_keys name sha1 sha256 (Client c) = Err WrongHandle

-- a table after a user is removed
abbrev pub removing : List ℕ → Kept → Result Kept Refusal
removing name (Users u) = refusal_or (text_refusal name)
    (Ok (Users (record u { registered = without_user u.registered name })))
removing name (ShortTermUsers u) =
    refusal_or (text_refusal name) (Ok (ShortTermUsers (map.remove u name)))
removing name (Server s) = Err WrongHandle
removing name (Open s) = Err WrongHandle
removing name (ShortTerm s) = Err WrongHandle
removing name (Checker a) = Err WrongHandle
removing name (Client c) = Err WrongHandle

-- the empty table of a server's users. One without credentials has no users
abbrev pub table_for : Kept → Result Kept Refusal
table_for (Server s) = Ok (Users (table_of s))
table_for (ShortTerm s) = Ok (ShortTermUsers map.empty)
table_for (Open s) = Err WrongHandle
table_for (Users u) = Err WrongHandle
table_for (ShortTermUsers u) = Err WrongHandle
table_for (Checker a) = Err WrongHandle
table_for (Client c) = Err WrongHandle

-- a call leaves this table in its handle and returns 0, or it fails and leaves the handle unchanged
abbrev pub LeavesTable : Result Kept Refusal → ℤ → Option Kept → Option Kept → Type 0
LeavesTable (Ok left) result before now = (result ≡ pos 0) × (now ≡ Some left)
LeavesTable (Err refusal) result before now = (result ≡ refusal_number refusal) × (now ≡ before)

-- a call does so, and an allocation may fail
abbrev pub LeavesTableOr : Result Kept Refusal → ℤ → Option Kept → Option Kept → Type 0
LeavesTableOr (Ok left) result before now =
    OrOutOfMemory result before now (pos 0) (Some left)
LeavesTableOr (Err refusal) result before now = (result ≡ refusal_number refusal) × (now ≡ before)
