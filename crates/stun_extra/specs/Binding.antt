-- Binding, the method of STUN itself (RFC 8489, section 18.2).
use Rattle.std.specs.Prelude.{ℕ, List, Bool, ◌==◌}
use Rattle.stun_base.specs.Header.{type_field}
use Rattle.stun_base.specs.MessageType.{method_of}

-- whether the method of a message is Binding
abbrev pub is_binding : List ℕ → Bool
is_binding bytes = method_of (type_field bytes) == 1
