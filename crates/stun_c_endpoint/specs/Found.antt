-- The outcome of a datagram with a user who was found, as a caller in C receives it (RFC 8489,
-- section 9.2.4).
use Rattle.std.specs.Prelude.{ℕ, List, Bool, if◌then◌else◌, Option, Result, Ok, Err}
use Rattle.stun_endpoint.specs.Realm.{table_of}
use Rattle.stun_endpoint.specs.Settings.{Settings}
use Rattle.stun_numbers.specs.declared.refusal.Refusal.{Refusal}
use Rattle.stun_numbers.specs.declared.refusal.Refusal.TheVariants.{WrongHandle}
use Rattle.stun_c_endpoint.specs.Kept.{Judge, at_handle, with_realm}
use Rattle.stun_c_endpoint.specs.Users.{adding, adding_keys}
use Rattle.stun_c_endpoint.specs.declared.handle.endpoint.Kept.{Kept}
use Rattle.stun_c_endpoint.specs.declared.handle.endpoint.Kept.TheVariants.{Checker, Server, Users}
use Rattle.stun_c_endpoint.specs.declared.handle.endpoint.Kept.TheVariants.{Open, ShortTerm}
use Rattle.stun_c_endpoint.specs.declared.handle.endpoint.Kept.TheVariants.{Client, ShortTermUsers}

-- a table after the user is added, with the password or with stored keys
abbrev pub adding_found : List ℕ → List ℕ → Bool → List ℕ → List ℕ → Kept → Result Kept Refusal
adding_found name password has_password sha1 sha256 table =
    if has_password then adding name password table else adding_keys name sha1 sha256 table

-- a server with this table
abbrev pub with_left : Settings → Result Kept Refusal → Result Judge Refusal
with_left s (Ok table) = with_realm s table
with_left s (Err refusal) = Err refusal

-- the server and the users that judge: a server with long-term credentials, with a table of only
-- this user
abbrev pub judge_by_found : List ℕ → List ℕ → Bool → List ℕ → List ℕ → Kept → Result Judge Refusal
judge_by_found name password has_password sha1 sha256 (Server s) =
    with_left s (adding_found name password has_password sha1 sha256 (Users (table_of s)))
judge_by_found name password has_password sha1 sha256 (Users t) = Err WrongHandle
judge_by_found name password has_password sha1 sha256 (Open t) = Err WrongHandle
judge_by_found name password has_password sha1 sha256 (ShortTerm t) = Err WrongHandle
judge_by_found name password has_password sha1 sha256 (ShortTermUsers t) = Err WrongHandle
judge_by_found name password has_password sha1 sha256 (Checker t) = Err WrongHandle
judge_by_found name password has_password sha1 sha256 (Client t) = Err WrongHandle

-- the server and the users, for a handle
abbrev pub judge_of_found : List ℕ → List ℕ → Bool → List ℕ → List ℕ → Option Kept
    → Result Judge Refusal
judge_of_found name password has_password sha1 sha256 server =
    at_handle server (λ s. judge_by_found name password has_password sha1 sha256 s)
