-- The first bytes of an input tell whether it is raw.
use Rattle.std.proofs.Common.{◌≡◌, ◌≤◌, ◌⊎◌, ℕ, List, [], ◌++◌, length, drop, true, false, Option}
use Rattle.std.proofs.Common.{Some, None, Result, Ok, Err, IfSome, IfOk, sym, ◌∙◌, ap, arith}
use Rattle.std.proofs.Common.{append-nil, length-append, length-drop, inl, inr}
use Rattle.std.specs.Prelude.{nat_le, nat_lt, ◌==◌, ◌&&◌}
use Rattle.std.specs.Io.KnownBytes.{IsAtEnd}
use Rattle.std.proofs.lemmas.Bool.Decides.{nat_tests}
use Rattle.std.proofs.lemmas.List.{drop-append-le}
use Rattle.byteorder.specs.Endian.{big_number}
use Rattle.byteorder.specs.Numbers.{big_from-append}
use Rattle.stun_cli.specs.Input.{IsReadOn}
use Rattle.stun_inspect.specs.Input.{IsBegun, is_raw}
use Rattle.stun_inspect.specs.code.Opened.{IsCapture}
use Rattle.stun_inspect.specs.declared.input.Input.{Input}
use Rattle.stun_inspect.specs.declared.input.Input.TheVariants.{Capture, Bytes}
use Rattle.stun_inspect.specs.declared.failure.Failure.{Failure}

le_true : (a b : ℕ) → a ≤ b → nat_le a b ≡ true
le_true a b below = grind (arith, nat_tests)

-- what follows 8 bytes tells nothing
raw-front : (front behind : List ℕ) → 8 ≤ length front → is_raw (front ++ behind) ≡ is_raw front
raw-front front behind long =
    let kind : big_number 2 (front ++ behind) ≡ big_number 2 front =
    big_from-append 2 front behind (omega (arith, long)) in
    let cookie : big_number 4 (drop 4 (front ++ behind)) ≡ big_number 4 (drop 4 front) =
    ap (big_number 4) (drop-append-le 4 front behind (omega (arith, long)))
    ∙ big_from-append 4 (drop 4 front) behind (omega (arith, long, length-drop 4 front)) in
    let enough : nat_le 8 (length (front ++ behind)) ≡ nat_le 8 (length front) =
    le_true 8 (length (front ++ behind)) (omega (arith, long, length-append front behind))
    ∙ sym (le_true 8 (length front) long) in
    λ i. enough i && nat_lt (kind i) 16384 && (cookie i == 0x2112A442)

-- an input is not raw if its front is not
pub not_raw : (input : List ℕ) (rest : Option (List ℕ)) (front : List ℕ)
    → IsReadOn (Some input) rest [] front → (12 ≤ length front) ⊎ IsAtEnd rest
    → is_raw front ≡ false → is_raw input ≡ false
not_raw input None front on enough other = absurd on.consumed
not_raw input (Some rest) front on (inl long) other =
    ap is_raw (on.consumed ∙ ap (λ l. l ++ rest) (sym on.follows))
    ∙ (raw-front front rest (omega (arith, long)) ∙ other)
not_raw input (Some rest) front on (inr end) other =
    ap is_raw (on.consumed ∙ (ap (λ l. on.read ++ l) end ∙ (append-nil on.read ∙ sym on.follows)))
    ∙ other

-- a capture is begun where the front is not raw
pub begun_capture : {A : Type 0} (given rest : Option (List ℕ)) (front : List ℕ)
    (result : Result (Input A) Failure)
    → IsReadOn given rest [] front → (12 ≤ length front) ⊎ IsAtEnd rest → is_raw front ≡ false
    → IfOk result IsCapture
    → IfSome given (λ input. IfOk result (λ begun. IsBegun input begun))
begun_capture None rest front result on enough other capture = tt
begun_capture (Some input) rest front (Err error) on enough other capture = tt
begun_capture (Some input) rest front (Ok (Capture c begun)) on enough other capture =
    not_raw input rest front on enough other
begun_capture (Some input) rest front (Ok (Bytes bytes)) on enough other capture = absurd capture

-- other bytes are read to the end
pub begun_bytes : (given rest : Option (List ℕ)) (front bytes : List ℕ)
    → IsReadOn given rest [] front → IfSome rest (λ behind. bytes ≡ front ++ behind)
    → IfSome given (λ input. bytes ≡ input)
begun_bytes None rest front bytes on all = tt
begun_bytes (Some input) None front bytes on all = absurd on.consumed
begun_bytes (Some input) (Some behind) front bytes on all =
    all ∙ (ap (λ l. l ++ behind) on.follows ∙ sym on.consumed)
