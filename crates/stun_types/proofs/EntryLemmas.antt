-- The entries of password algorithms: how many there are, which one is at an index, and the steps
-- of reading and writing.
use Rattle.std.proofs.Common.{◌≡◌, ℕ, zero, suc, ◌+◌, ◌*◌, ◌<◌, List, [], ◌∷◌, ◌++◌, length, take}
use Rattle.std.proofs.Common.{drop, get_or, true, refl, ap, sym, ◌∙◌, arith}
use Rattle.std.specs.Prelude.{Option, Some, None, ◌^◌, ◌==◌, if◌then◌else◌}
use Rattle.std.specs.Option.{is_some, unwrap_or}
use Rattle.std.specs.List.{slice_get}
use Rattle.std.proofs.lemmas.List.{drop-drop, take_more, flat_map_more}
use Rattle.std.proofs.lemmas.Bool.Decides.{nat_tests}
use Rattle.std.proofs.lemmas.Option.{get_or_from_slice_get, slice_get_within}
use Rattle.stun_types.specs.declared.attribute.password_algorithm.PasswordAlgorithmValue.{
  PasswordAlgorithmValue,
}
use Rattle.stun_types.specs.declared.attribute.password_algorithm.PasswordAlgorithmValue.TheVariants.{
  MD5,
  SHA256,
}
use Rattle.stun_types.specs.PasswordAlgorithms.{number_of_algorithm, algorithm_of_number}
use Rattle.stun_types.specs.PasswordAlgorithms.{spelled_entry, spelled_entries}
use Rattle.stun_types.specs.PasswordAlgorithms.{entries, entry_at_front, in_front_of}
use Rattle.stun_types.specs.code.PasswordAlgorithms.{entry_list, are_entries}

-- each algorithm takes four bytes
pub length_of_entries : (list : List PasswordAlgorithmValue)
    → length (spelled_entries list) ≡ 4 * length list
length_of_entries [] = refl
length_of_entries (MD5 ∷ list) = omega (arith, length_of_entries list)
length_of_entries (SHA256 ∷ list) = omega (arith, length_of_entries list)

-- an entry takes four bytes
pub length_of_entry : (algorithm : PasswordAlgorithmValue) → length (spelled_entry algorithm) ≡ 4
length_of_entry MD5 = refl
length_of_entry SHA256 = refl

-- within the list there is an algorithm
pub not_past : (list : List PasswordAlgorithmValue) (i : ℕ) → i < length list
    → slice_get list i ≡ None → ⊥
not_past [] i within past = omega arith
not_past (x ∷ list) zero within past = cc
not_past (x ∷ list) (suc i) within past = not_past list i (omega arith) past

-- one entry more, after a front
pub entries_more : (front : List ℕ) (list : List PasswordAlgorithmValue) (i : ℕ)
    (algorithm : PasswordAlgorithmValue) → slice_get list i ≡ Some algorithm
    → front ++ spelled_entries (take (i + 1) list)
    ≡ (front ++ spelled_entries (take i list)) ++ spelled_entry algorithm
entries_more front list i algorithm at =
    let below : i < length list = slice_get_within list i algorithm at in
    rw (take_more list i algorithm below, get_or_from_slice_get list i algorithm algorithm at)
    (sym (flat_map_more spelled_entry front (take i list) algorithm))

-- lists of the same length with the same algorithm at each index are equal
pub same_entries : (one other : List PasswordAlgorithmValue) → length one ≡ length other
    → ((k : ℕ) → k < length one → slice_get one k ≡ slice_get other k) → one ≡ other
same_entries [] [] lengths same = refl
same_entries [] (y ∷ other) lengths same = absurd (omega arith)
same_entries (x ∷ one) [] lengths same = absurd (omega arith)
same_entries (x ∷ one) (y ∷ other) lengths same =
    let first : Some x ≡ Some y = same 0 (omega arith) in
    let others : one ≡ other =
    same_entries one other (omega arith) (λ k below. same (suc k) (omega arith)) in
    cc

-- the parts of a list that was put together of a first algorithm and others
record Parts (others : Option (List PasswordAlgorithmValue)) (first : Option PasswordAlgorithmValue)
    (list : List PasswordAlgorithmValue) : Type 0 where
  pub head : PasswordAlgorithmValue
  pub tail : List PasswordAlgorithmValue
  pub others_are : others ≡ Some tail
  pub first_is : first ≡ Some head
  pub list_is : list ≡ head ∷ tail

parts : (others : Option (List PasswordAlgorithmValue)) (first : Option PasswordAlgorithmValue)
    (list : List PasswordAlgorithmValue)
    → in_front_of others first ≡ Some list → Parts others first list
parts None first list whole = absurd (cc)
parts (Some tail) None list whole = absurd (cc)
parts (Some tail) (Some head) list whole =
    record { head = head; tail = tail; others_are = refl; first_is = refl; list_is = cc }

-- as many entries as algorithms
pub entries-length : (bytes : List ℕ) (list : List PasswordAlgorithmValue)
    → entries bytes ≡ Some list → length bytes ≡ 4 * length list
entries-length [] [] read = refl
entries-length [] (x ∷ list) read = absurd (cc)
entries-length (a ∷ []) list read = absurd (cc)
entries-length (a ∷ b ∷ []) list read = absurd (cc)
entries-length (a ∷ b ∷ c ∷ []) list read = absurd (cc)
entries-length (a ∷ b ∷ c ∷ d ∷ rest) list read =
    let p = parts (entries rest) (entry_at_front (a ∷ b ∷ c ∷ d ∷ [])) list read in
    let shorter : length rest ≡ 4 * length p.tail = entries-length rest p.tail p.others_are in
    let longer : length list ≡ length (p.head ∷ p.tail) = ap length p.list_is in
    omega arith

-- the algorithm at an index is that of the entry there
pub entries-get : (bytes : List ℕ) (list : List PasswordAlgorithmValue) (i : ℕ)
    → entries bytes ≡ Some list → i < length list
    → slice_get list i ≡ entry_at_front (drop (4 * i) bytes)
entries-get [] [] i read within = absurd (omega arith)
entries-get [] (x ∷ list) i read within = absurd (cc)
entries-get (a ∷ []) list i read within = absurd (cc)
entries-get (a ∷ b ∷ []) list i read within = absurd (cc)
entries-get (a ∷ b ∷ c ∷ []) list i read within = absurd (cc)
entries-get (a ∷ b ∷ c ∷ d ∷ rest) list zero read within =
    let p = parts (entries rest) (entry_at_front (a ∷ b ∷ c ∷ d ∷ [])) list read in
    rw p.list_is (sym p.first_is)
entries-get (a ∷ b ∷ c ∷ d ∷ rest) list (suc i) read within =
    let p = parts (entries rest) (entry_at_front (a ∷ b ∷ c ∷ d ∷ [])) list read in
    let longer : length list ≡ length (p.head ∷ p.tail) = ap length p.list_is in
    let later : slice_get p.tail i ≡ entry_at_front (drop (4 * i) rest) =
    entries-get rest p.tail i p.others_are (omega arith) in
    let skipped : drop (4 * i) rest ≡ drop (4 + 4 * i) (a ∷ b ∷ c ∷ d ∷ rest) =
    drop-drop (4 * i) 4 (a ∷ b ∷ c ∷ d ∷ rest) in
    let place : 4 + 4 * i ≡ 4 * suc i = omega arith in
    rw p.list_is
    (later ∙ ap entry_at_front (skipped ∙ ap (λ n. drop n (a ∷ b ∷ c ∷ d ∷ rest)) place))

-- what is there is the value, whatever stands in for nothing
there : (list : Option (List PasswordAlgorithmValue)) → is_some list ≡ true
    → list ≡ Some (unwrap_or list [])
there None some = absurd (cc)
there (Some list) some = refl

-- the list of known entries is what they read as
pub entry_list-read : (bytes : List ℕ) → are_entries bytes ≡ true
    → entries bytes ≡ Some (entry_list bytes)
entry_list-read bytes known = there (entries bytes) known

-- bytes are numbers of 8 bits
pub record AreBytes (bytes : List ℕ) : Type 0 where
  pub each : (i : ℕ) → get_or bytes i 0 < 2 ^ 8

-- an algorithm that is read has its number, and no parameters
front-is : (kind parameters : ℕ) (algorithm : PasswordAlgorithmValue)
    → (if parameters == 0 then algorithm_of_number kind else None) ≡ Some algorithm
    → (parameters ≡ 0) × (kind ≡ number_of_algorithm algorithm)
front-is kind parameters MD5 read = (grind (arith, nat_tests), grind (arith, nat_tests))
front-is kind parameters SHA256 read = (grind (arith, nat_tests), grind (arith, nat_tests))

-- an entry that is read is what its algorithm is written as
entry-spelled : (a b c d : ℕ) (algorithm : PasswordAlgorithmValue) → b < 2 ^ 8
    → entry_at_front (a ∷ b ∷ c ∷ d ∷ []) ≡ Some algorithm
    → spelled_entry algorithm ≡ a ∷ b ∷ c ∷ d ∷ []
entry-spelled a b c d MD5 small read =
    let is = front-is (a * 256 + (b * 1 + 0)) (c * 256 + (d * 1 + 0)) MD5 read in
    let none : c * 256 + (d * 1 + 0) ≡ 0 = is.0 in
    let number : a * 256 + (b * 1 + 0) ≡ 1 = is.1 in
    let a0 : a ≡ 0 = omega arith in
    let b1 : b ≡ 1 = omega arith in
    let c0 : c ≡ 0 = omega arith in
    let d0 : d ≡ 0 = omega arith in
    rw (a0, b1, c0, d0) refl
entry-spelled a b c d SHA256 small read =
    let is = front-is (a * 256 + (b * 1 + 0)) (c * 256 + (d * 1 + 0)) SHA256 read in
    let none : c * 256 + (d * 1 + 0) ≡ 0 = is.0 in
    let number : a * 256 + (b * 1 + 0) ≡ 2 = is.1 in
    let a0 : a ≡ 0 = omega arith in
    let b2 : b ≡ 2 = omega arith in
    let c0 : c ≡ 0 = omega arith in
    let d0 : d ≡ 0 = omega arith in
    rw (a0, b2, c0, d0) refl

-- entries that are read are what their list is written as
pub entries-spelled : (bytes : List ℕ) (list : List PasswordAlgorithmValue) → AreBytes bytes
    → entries bytes ≡ Some list → spelled_entries list ≡ bytes
entries-spelled [] [] small read = refl
entries-spelled [] (x ∷ list) small read = absurd (cc)
entries-spelled (a ∷ []) list small read = absurd (cc)
entries-spelled (a ∷ b ∷ []) list small read = absurd (cc)
entries-spelled (a ∷ b ∷ c ∷ []) list small read = absurd (cc)
entries-spelled (a ∷ b ∷ c ∷ d ∷ rest) list small read =
    let p = parts (entries rest) (entry_at_front (a ∷ b ∷ c ∷ d ∷ [])) list read in
    let small_rest = λ (i : ℕ). small.each (suc (suc (suc (suc i)))) in
    let first = entry-spelled a b c d p.head (small.each 1) p.first_is in
    let others = entries-spelled rest p.tail (record { each = small_rest }) p.others_are in
    ap spelled_entries p.list_is
    ∙ ap (λ front. front ++ spelled_entries p.tail) first
    ∙ ap (λ back. a ∷ b ∷ c ∷ d ∷ back) others
