-- A message that is signed has its header still.
use Rattle.std.proofs.Common.{◌≡◌, ℕ, ◌-◌, ◌≤◌, List, length, arith}
use Rattle.std.specs.Prelude.{Err, IfOk, Ok, Result}
use Rattle.stun_base.specs.declared.wire.error.StunWriteError.{StunWriteError}
use Rattle.stun_types.specs.Limits.{LENGTH_LIMIT}
use Rattle.stun_types.specs.WriteVec.{Written}
use Rattle.stun_judging.specs.Additions.{Addition, UnlessMemory, added_all, page_in, written_page}
use Rattle.stun_judging.proofs.Growth.{grown_answer}

abbrev pub bytes_in : Written → List ℕ
bytes_in page = page.bytes

abbrev pub room_in : Written → ℕ
room_in page = LENGTH_LIMIT - length page.bytes

pub header_of_signed : (list : List Addition) (before : Written) (Q : Type 0)
    (result : Result Written StunWriteError)
    → 20 ≤ length before.bytes
    → UnlessMemory result
    (written_page bytes_in room_in result ≡ added_all list (page_in bytes_in room_in before)) Q
    → IfOk result (λ page. 20 ≤ length page.bytes)
header_of_signed list before Q (Ok page) long h =
    let grown = grown_answer bytes_in room_in list before Q (Ok page) long h in
    omega (arith, grown)
header_of_signed list before Q (Err why) long h = tt
