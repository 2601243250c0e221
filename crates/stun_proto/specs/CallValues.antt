-- A call of a server as a value: what its equality compares, and what `Debug` shows of it.
use Rattle.std.specs.Prelude.{ℕ, List, string_bytes, codes}
use Rattle.std.specs.declared.time.Duration.{Duration}
use Rattle.std.specs.declared.net.socket_addr.SocketAddr.{SocketAddr}
use Rattle.stun_base.specs.declared.keys.algorithm.IntegrityAlgorithm.{IntegrityAlgorithm}
use Rattle.stun_judging.specs.declared.feature.Feature.{Feature}
use Rattle.stun_proto.specs.declared.replay.call.ServerCall.{ServerCall}
use Rattle.stun_proto.specs.declared.replay.call.ServerCall.TheVariants as Call

-- a call, with its bytes and texts as lists
pub data CallValue : Type 0 where
  Validate : SocketAddr → ℕ → List ℕ → List ℕ → CallValue
  Sign : SocketAddr → List ℕ → CallValue
  AddUser : List ℕ → List ℕ → CallValue
  RemoveUser : List ℕ → CallValue
  AddIntegrity : IntegrityAlgorithm → CallValue
  SetIntegrity : IntegrityAlgorithm → CallValue
  SetAnonymous : Feature → CallValue
  RemoveClient : SocketAddr → CallValue
  SetExpiry : Duration → CallValue
  ForgetExpired : ℕ → CallValue
  Forget : SocketAddr → CallValue

abbrev pub call_value : ServerCall → CallValue
call_value (Call.Validate from now message words) = Validate from now message.items words
call_value (Call.Sign to message) = Sign to message.items
call_value (Call.AddUser name password) = AddUser (string_bytes name) (string_bytes password)
call_value (Call.RemoveUser name) = RemoveUser (string_bytes name)
call_value (Call.AddIntegrity algorithm) = AddIntegrity algorithm
call_value (Call.SetIntegrity algorithm) = SetIntegrity algorithm
call_value (Call.SetAnonymous feature) = SetAnonymous feature
call_value (Call.RemoveClient address) = RemoveClient address
call_value (Call.SetExpiry expiry) = SetExpiry expiry
call_value (Call.ForgetExpired now) = ForgetExpired now
call_value (Call.Forget address) = Forget address

-- what is shown of a call: which one it is, and none of its values, since a password is one
abbrev pub call_shown : ServerCall → List ℕ
call_shown (Call.Validate from now message words) = codes "Validate { .. }"
call_shown (Call.Sign to message) = codes "Sign { .. }"
call_shown (Call.AddUser name password) = codes "AddUser { .. }"
call_shown (Call.RemoveUser name) = codes "RemoveUser(..)"
call_shown (Call.AddIntegrity algorithm) = codes "AddIntegrity(..)"
call_shown (Call.SetIntegrity algorithm) = codes "SetIntegrity(..)"
call_shown (Call.SetAnonymous feature) = codes "SetAnonymous(..)"
call_shown (Call.RemoveClient address) = codes "RemoveClient(..)"
call_shown (Call.SetExpiry expiry) = codes "SetExpiry(..)"
call_shown (Call.ForgetExpired now) = codes "ForgetExpired(..)"
call_shown (Call.Forget address) = codes "Forget(..)"
