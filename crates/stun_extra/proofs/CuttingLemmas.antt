-- A stream is cut by a reader: what it calls whole stays whole, so cutting goes on at the next.
use Rattle.std.proofs.Common.{◌≡◌, ℕ, zero, suc, ◌+◌, ◌≤◌, ◌<◌, List, [], ◌∷◌, ◌++◌, length, take}
use Rattle.std.proofs.Common.{drop, refl, sym, ◌∙◌, ap, arith, append_assoc, length-drop}
use Rattle.std.specs.List.{AllByRecursion, concat}
use Rattle.std.proofs.Math.Seq.{drop-append_seam, take-append_seam}
use Rattle.std.proofs.lemmas.List.{drop-append-le, take-append-le}
use Rattle.stun_extra.specs.Framing.{Cut, IsLeftOver, cut_of, cut_by, cut_up_to, cut_with_more}
use Rattle.stun_extra.specs.Framing.{with_first}
use Rattle.stun_extra.specs.declared.framing.Frame.{Frame}
use Rattle.stun_extra.specs.declared.framing.Frame.TheVariants.{Need, Message, NotStun}

-- what a reader calls whole is there, is not empty, and is whole whatever follows
pub record IsSteady (reader : List ℕ → Frame) : Type 0 where
  pub some : (bytes : List ℕ) (n : ℕ) → reader bytes ≡ Message n → 1 ≤ n
  pub within : (bytes : List ℕ) (n : ℕ) → reader bytes ≡ Message n → n ≤ length bytes
  pub stays : (bytes more : List ℕ) (n : ℕ) → reader bytes ≡ Message n
      → reader (bytes ++ more) ≡ Message n

-- a message is cut off
cut_of-framed : (reader : List ℕ → Frame) (most n : ℕ) (bytes : List ℕ) → reader bytes ≡ Message n
    → cut_up_to reader (suc most) bytes
    ≡ with_first (take n bytes) (cut_up_to reader most (drop n bytes))
unfolding cut_up_to
cut_of-framed reader most n bytes framed =
    ap (λ f. cut_by f (cut_up_to reader most) bytes) framed

-- nothing is cut off where no whole message is
cut_of-left_over : (reader : List ℕ → Frame) (most : ℕ) (bytes : List ℕ)
    → IsLeftOver reader bytes
    → cut_up_to reader most bytes ≡ record { messages = []; rest = bytes }
unfolding cut_up_to
cut_of-left_over reader zero bytes left = refl
cut_of-left_over reader (suc most) bytes left = by (reader bytes) refl
  where
    by : (f : Frame) → reader bytes ≡ f
        → cut_by f (cut_up_to reader most) bytes ≡ record { messages = []; rest = bytes }
    by (Message n) answer = absurd (left n answer)
    by (Need n) answer = refl
    by NotStun answer = refl

-- a whole message is at the front, or none
data Front (reader : List ℕ → Frame) (bytes : List ℕ) : Type 0 where
  has_message : (n : ℕ) → reader bytes ≡ Message n → Front reader bytes
  has_none : IsLeftOver reader bytes → Front reader bytes

front : (reader : List ℕ → Frame) (bytes : List ℕ) → Front reader bytes
front reader bytes = by (reader bytes) refl
  where
    by : (f : Frame) → reader bytes ≡ f → Front reader bytes
    by (Message n) answer = has_message n answer
    by (Need n) answer =
        has_none (λ k other. let apart : Need n ≡ Message k = sym answer ∙ other in cc)
    by NotStun answer =
        has_none (λ k other. let apart : NotStun ≡ Message k = sym answer ∙ other in cc)

-- as many messages as there are bytes are enough
cut_of-enough : (reader : List ℕ → Frame) → IsSteady reader → (a b : ℕ) (bytes : List ℕ)
    → Front reader bytes → length bytes ≤ a → length bytes ≤ b
    → cut_up_to reader a bytes ≡ cut_up_to reader b bytes
cut_of-enough reader steady a b bytes (has_none left) enough other =
    cut_of-left_over reader a bytes left ∙ sym (cut_of-left_over reader b bytes left)
cut_of-enough reader steady zero b bytes (has_message n framed) enough other =
    absurd (omega (arith, enough, steady.some bytes n framed, steady.within bytes n framed))
cut_of-enough reader steady (suc a) zero bytes (has_message n framed) enough other =
    absurd (omega (arith, other, steady.some bytes n framed, steady.within bytes n framed))
cut_of-enough reader steady (suc a) (suc b) bytes (has_message n framed) enough other =
    let count = length-drop n bytes in
    let some = steady.some bytes n framed in
    let others =
    cut_of-enough reader steady a b (drop n bytes) (front reader (drop n bytes))
    (omega (arith, enough, some, count)) (omega (arith, other, some, count)) in
    cut_of-framed reader a n bytes framed
    ∙ (ap (with_first (take n bytes)) others ∙ sym (cut_of-framed reader b n bytes framed))

-- the first message is cut off, and then the bytes behind it are cut
cut_of-first : (reader : List ℕ → Frame) → IsSteady reader → (bytes : List ℕ) (n : ℕ)
    → reader bytes ≡ Message n
    → cut_of reader bytes ≡ with_first (take n bytes) (cut_of reader (drop n bytes))
cut_of-first reader steady bytes n framed =
    let count = length-drop n bytes in
    cut_of-enough reader steady (length bytes) (suc (length bytes)) bytes (has_message n framed)
    (omega arith) (omega arith)
    ∙ (cut_of-framed reader (length bytes) n bytes framed
    ∙ ap (with_first (take n bytes))
    (cut_of-enough reader steady (length bytes) (length (drop n bytes)) (drop n bytes)
    (front reader (drop n bytes)) (omega (arith, count)) (omega arith)))

-- what a reader takes whole, whatever follows
abbrev pub TakesWhole : (List ℕ → Frame) → (List ℕ → Type 0) → Type 0
TakesWhole reader IsItem =
    (item rest : List ℕ) → IsItem item → reader (item ++ rest) ≡ Message (length item)

-- exactly the messages that were written are cut off
pub cut_of-messages : (reader : List ℕ → Frame) (IsItem : List ℕ → Type 0) → IsSteady reader
    → TakesWhole reader IsItem → (messages : List (List ℕ)) (rest : List ℕ)
    → AllByRecursion IsItem messages → IsLeftOver reader rest
    → cut_of reader (concat messages ++ rest) ≡ record { messages = messages; rest = rest }
cut_of-messages reader IsItem steady takes [] rest all left =
    cut_of-left_over reader (length rest) rest left
cut_of-messages reader IsItem steady takes (message ∷ messages) rest all left =
    let behind = concat messages ++ rest in
    ap (cut_of reader) (append_assoc message (concat messages) rest)
    ∙ (cut_of-first reader steady (message ++ behind) (length message)
    (takes message behind all.0)
    ∙ ((λ i.
    with_first (take-append_seam message behind i)
    (cut_of reader (drop-append_seam message behind i)))
    ∙ ap (with_first message)
    (cut_of-messages reader IsItem steady takes messages rest all.1 left)))

-- a cut is its two parts
alone : (c : Cut) → record { messages = [] ++ c.messages; rest = c.rest } ≡ c
alone c = refl

-- what comes in pieces is cut as if it came at once
cut_of-fed_up_to : (reader : List ℕ → Frame) → IsSteady reader → (most : ℕ) (bytes more : List ℕ)
    → Front reader bytes → length bytes ≤ most
    → cut_of reader (bytes ++ more) ≡ cut_with_more reader (cut_up_to reader most bytes) more
cut_of-fed_up_to reader steady most bytes more (has_none left) enough =
    sym (alone (cut_of reader (bytes ++ more)))
    ∙ ap (λ c. cut_with_more reader c more) (sym (cut_of-left_over reader most bytes left))
cut_of-fed_up_to reader steady zero bytes more (has_message n framed) enough =
    absurd (omega (arith, enough, steady.some bytes n framed, steady.within bytes n framed))
cut_of-fed_up_to reader steady (suc most) bytes more (has_message n framed) enough =
    let within = steady.within bytes n framed in
    let some = steady.some bytes n framed in
    let first = take-append-le n bytes more within in
    let behind = drop-append-le n bytes more within in
    let others =
    cut_of-fed_up_to reader steady most (drop n bytes) more (front reader (drop n bytes))
    (omega (arith, enough, some, length-drop n bytes)) in
    cut_of-first reader steady (bytes ++ more) n (steady.stays bytes more n framed)
    ∙ ((λ i. with_first (first i) (cut_of reader (behind i)))
    ∙ (ap (with_first (take n bytes)) others
    ∙ ap (λ c. cut_with_more reader c more) (sym (cut_of-framed reader most n bytes framed))))

pub cut_of-append : (reader : List ℕ → Frame) → IsSteady reader → (bytes more : List ℕ)
    → cut_of reader (bytes ++ more) ≡ cut_with_more reader (cut_of reader bytes) more
cut_of-append reader steady bytes more =
    cut_of-fed_up_to reader steady (length bytes) bytes more (front reader bytes) (omega arith)
