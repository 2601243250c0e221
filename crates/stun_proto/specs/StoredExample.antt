-- A database with two users, and a message that is judged with one of them (RFC 8489, section
-- 9.2.4): what the law `stored_calls_are_a_run` is about.
use Rattle.std.specs.Prelude.{◌≡◌, ℕ, false, List, [], ◌∷◌, Some, None, codes}
use Rattle.std.specs.Global.{Vec}
use Rattle.std.specs.declared.net.socket_addr.SocketAddr.{SocketAddr}
use Rattle.stun_base.specs.Credentials.{NameAndPassword}
use Rattle.stun_base.specs.MessageType.{is_response}
use Rattle.stun_types.specs.Message.{refusal}
use Rattle.stun_auth.specs.Handed.{meant_user}
use Rattle.stun_judging.specs.Reading.{reading_of}
use Rattle.stun_judging.specs.Registered.{new_registered, user_by_password, with_user}
use Rattle.stun_auth.specs.Validation.{new_server}
use Rattle.stun_proto.specs.DatabaseLoop.{AreMadeOf, ForgetWithin, Stored, ValidateOf, whole}
use Rattle.stun_proto.specs.MeetingExample.{a_user}
use Rattle.stun_proto.specs.Serving.{Reply}
use Rattle.stun_proto.specs.declared.replay.call.ServerCall.{ServerCall}

abbrev pub another_user : NameAndPassword
another_user = record { username = codes "another"; password = codes "other pass" }

-- a new server, which has no users itself, and the two users in the database
abbrev pub two_users : Stored
two_users = record {
  server = new_server (codes "realm");
  secrets = (with_user (with_user (new_registered (codes "realm")) a_user) another_user).secrets;
}

-- a message that is no response, and gives the first user's name in clear
pub record NamesTheFirst (bytes : List ℕ) : Type 0 where
  pub is_message : refusal bytes ≡ None
  pub no_response : is_response (reading_of bytes).class ≡ false
  pub no_hash : (reading_of bytes).userhash ≡ None
  pub named : (reading_of bytes).username ≡ Some (codes "user")

-- The request is judged with the user whom it names, and later what has expired is forgotten,
-- within one address: calls of a server without users, which are a run of the one that has both
pub record IsStored (from : SocketAddr) (now later : ℕ) (words : List ℕ) (request : Vec ℕ) : Type
    0 where
  pub named : meant_user (whole two_users) from (reading_of request.items)
      ≡ Some (user_by_password a_user)
  pub calls : List ServerCall
  pub given : List Reply
  pub last : Stored
  pub made : AreMadeOf two_users
      (ValidateOf from now request words ∷ ForgetWithin later None 1 ∷ []) calls given last

-- for each such message
abbrev pub OneIsStored : Type 0
OneIsStored =
    (from : SocketAddr) (now later : ℕ) (words : List ℕ) (request : Vec ℕ)
    → NamesTheFirst request.items → IsStored from now later words request
