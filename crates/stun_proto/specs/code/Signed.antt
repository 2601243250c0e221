-- What a growing writer holds, as contracts of signing see it.
use Rattle.std.specs.Prelude.{ℕ, List, Result, Ok, Err}
use Rattle.stun_base.specs.declared.wire.error.StunWriteError.{StunWriteError}
use Rattle.stun_types.specs.WriteVec.{Written}
use Rattle.stun_judging.specs.Additions.{Page, page_of}

-- the message in a writer, if there is one
abbrev pub written_message : Result Written StunWriteError → Result (List ℕ) StunWriteError
written_message (Ok writer) = Ok writer.bytes
written_message (Err reason) = Err reason

-- the message with the room after it
abbrev pub signed_page : Result Written StunWriteError → Result Page StunWriteError
signed_page (Ok writer) = Ok (page_of writer.bytes)
signed_page (Err reason) = Err reason
