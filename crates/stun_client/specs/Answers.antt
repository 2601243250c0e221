-- Which message answers a request (RFC 8489, section 6.3): a response with its method.
use Rattle.std.specs.Prelude.{ℕ, ◌==◌, Bool, false, List}
use Rattle.stun_base.specs.Header.{type_field}
use Rattle.stun_base.specs.MessageType.{class_in, method_of}
use Rattle.stun_base.specs.declared.wire.message_type.MessageClass.{MessageClass}
use Rattle.stun_base.specs.declared.wire.message_type.MessageClass.TheVariants.{Request}
use Rattle.stun_base.specs.declared.wire.message_type.MessageClass.TheVariants.{Indication}
use Rattle.stun_base.specs.declared.wire.message_type.MessageClass.TheVariants.{Success, Error}

abbrev pub is_answer_of : ℕ → MessageClass → List ℕ → Bool
is_answer_of method Request bytes = false
is_answer_of method Indication bytes = false
is_answer_of method Success bytes = method_of (type_field bytes) == method
is_answer_of method Error bytes = method_of (type_field bytes) == method

-- whether a message is a response with a method
abbrev pub is_answer : ℕ → List ℕ → Bool
is_answer method bytes = is_answer_of method (class_in bytes) bytes
