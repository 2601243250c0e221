-- The last attribute of each type that is read in a message, and the code of an ERROR-CODE.
use Rattle.std.specs.Prelude.{ℕ, ◌==◌, ◌||◌, if◌then◌else◌, List, Option, Some, None}
use Rattle.std.specs.List.{find}
use Rattle.std.specs.Option.{is_some, option_and_then, option_map, option_or}
use Rattle.stun_base.specs.Attributes.{ERROR_CODE, MESSAGE_INTEGRITY}
use Rattle.stun_base.specs.Attributes.{MESSAGE_INTEGRITY_SHA256, NONCE, PASSWORD_ALGORITHM}
use Rattle.stun_base.specs.Attributes.{PASSWORD_ALGORITHMS, REALM, USERHASH, USERNAME}
use Rattle.stun_base.specs.declared.wire.message_type.MessageClass.{MessageClass}
use Rattle.stun_types.specs.Attribute.{TypedValue}
use Rattle.stun_types.specs.ErrorCode.{CodeAndReason, error_of}
use Rattle.stun_types.specs.Integrity.{first_of, is_integrity}
use Rattle.stun_types.specs.Walk.{Member}
use Rattle.stun_base.specs.MessageType.{is_error}
use Rattle.stun_judging.specs.Reading.{last_of}
use Rattle.stun_judging.specs.declared.reading.LastAttributes.{LastAttributes}

-- the last attributes among the members of a message
abbrev pub last_attributes : List Member → LastAttributes
last_attributes members = record {
  error_code = option_map (λ m. m.1) (last_of ERROR_CODE members);
  realm = option_map (λ m. m.1) (last_of REALM members);
  nonce = option_map (λ m. m.1) (last_of NONCE members);
  username = option_map (λ m. m.1) (last_of USERNAME members);
  userhash = option_map (λ m. m.1) (last_of USERHASH members);
  password_algorithms = option_map (λ m. m.1) (last_of PASSWORD_ALGORITHMS members);
  password_algorithm = option_map (λ m. m.1) (last_of PASSWORD_ALGORITHM members);
  integrity = first_of MESSAGE_INTEGRITY members;
  integrity_sha256 = first_of MESSAGE_INTEGRITY_SHA256 members;
  has_integrity = is_some (find (λ m. is_integrity m.1) members);
}

-- the last attributes with one more, which is the last of its type. Of the integrity attributes the
-- first of its type stays
abbrev pub with_member : LastAttributes → Member → LastAttributes
with_member last m = record {
  error_code = if m.1.kind == ERROR_CODE then Some m.1 else last.error_code;
  realm = if m.1.kind == REALM then Some m.1 else last.realm;
  nonce = if m.1.kind == NONCE then Some m.1 else last.nonce;
  username = if m.1.kind == USERNAME then Some m.1 else last.username;
  userhash = if m.1.kind == USERHASH then Some m.1 else last.userhash;
  password_algorithms = if m.1.kind == PASSWORD_ALGORITHMS then Some m.1
      else last.password_algorithms;
  password_algorithm = if m.1.kind == PASSWORD_ALGORITHM then Some m.1 else last.password_algorithm;
  integrity = option_or last.integrity (if m.1.kind == MESSAGE_INTEGRITY then Some m else None);
  integrity_sha256 =
      option_or last.integrity_sha256
      (if m.1.kind == MESSAGE_INTEGRITY_SHA256 then Some m else None);
  has_integrity = is_integrity m.1 || last.has_integrity;
}

-- the code of the last ERROR-CODE of a message of a class
abbrev pub last_error_code : MessageClass → Option TypedValue → Option ℕ
last_error_code class attribute =
    if is_error class
    then option_map (λ (e : CodeAndReason). e.code) (option_and_then error_of attribute) else None
