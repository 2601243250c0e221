-- A transaction ID is read from the bytes that it is passed in.
use Rattle.std.proofs.Common.{◌≡◌, ◌∙◌, ◌<◌, ◌^◌, ℕ, [], sym, ap, append-nil}
use Rattle.byteorder.specs.Endian.{big_bytes, big_number}
use Rattle.byteorder.specs.Numbers.{big_number-reads_back}

pub id_again : (id : ℕ) → id < 256 ^ 12 → big_number 12 (big_bytes 12 id) ≡ id
id_again id small =
    ap (big_number 12) (sym (append-nil (big_bytes 12 id))) ∙ big_number-reads_back 12 id [] small
