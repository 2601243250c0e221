-- The requests of a client by their numbers: which are outstanding, under which transaction IDs,
-- and which have ended (RFC 8489, section 6.2).
use Rattle.std.specs.Prelude.{◌≡◌, ℕ, Bool, true, false, List, [], ◌∷◌, Option, Some, None, find}
use Rattle.std.specs.Prelude.{if◌then◌else◌}
use Rattle.std.specs.BTreeMap.{insert_entry, is_at}
use Rattle.std.specs.BTreeSet.{insert_key}
use Rattle.std.specs.Set.{remove_key}
use Rattle.std.specs.Map.{lookup, remove_entry}
use Rattle.std.specs.Option.{option_and_then, option_map, option_map_or}
use Rattle.std.specs.Ordering.{nat_cmp}
use Rattle.stun_client_requests.specs.declared.numbers.Known.{Known}
use Rattle.stun_client_requests.specs.declared.numbers.Known.TheVariants.{Outstanding, Ended}

-- each request under its number, in the order of the numbers
abbrev pub AllKnown : Type 0 → Type 0
AllKnown E = List (ℕ × Known E)

-- the requests, and the numbers of the outstanding ones whose bytes were not returned yet, in order
pub record NumbersSeen (E : Type 0) : Type 0 where
  pub known : AllKnown E
  pub unsent : List ℕ

abbrev pub no_numbers : {E : Type 0} → NumbersSeen E
no_numbers = record { known = []; unsent = [] }

-- what is stored under a number
abbrev pub known_at : {E : Type 0} → ℕ → AllKnown E → Option (Known E)
known_at number all = lookup (is_at (nat_cmp number)) all

-- `new` has `w` at a number, and has at each other number what `old` has
abbrev pub IsAt : {X : Type 0} → ℕ → Option X → List (ℕ × X) → List (ℕ × X) → Type 0
IsAt n w old new = (q : ℕ) → lookup (is_at (nat_cmp q)) new
    ≡ (if is_at (nat_cmp n) q then w else lookup (is_at (nat_cmp q)) old)

abbrev pub is_outstanding : {E : Type 0} → Known E → Bool
is_outstanding (Outstanding id) = true
is_outstanding (Ended end) = false

abbrev pub is_ended : {E : Type 0} → Known E → Bool
is_ended (Outstanding id) = false
is_ended (Ended end) = true

abbrev pub is_outstanding_at : {E : Type 0} → ℕ → NumbersSeen E → Bool
is_outstanding_at number s = option_map_or is_outstanding (known_at number s.known) false

abbrev pub is_ended_at : {E : Type 0} → ℕ → NumbersSeen E → Bool
is_ended_at number s = option_map_or is_ended (known_at number s.known) false

-- the transaction ID of an outstanding request
abbrev pub id_in : {E : Type 0} → Known E → Option ℕ
id_in (Outstanding id) = Some id
id_in (Ended end) = None

abbrev pub id_at : {E : Type 0} → ℕ → NumbersSeen E → Option ℕ
id_at number s = option_and_then id_in (known_at number s.known)

-- ---- changes

-- a request is sent under a transaction ID, with bytes that were not returned yet
abbrev pub after_put : {E : Type 0} → ℕ → ℕ → NumbersSeen E → NumbersSeen E
after_put number id s = record s {
  known = insert_entry nat_cmp s.known number (Outstanding id);
  unsent = insert_key nat_cmp s.unsent number;
}

-- a request is forgotten
abbrev pub after_removal : {E : Type 0} → ℕ → NumbersSeen E → NumbersSeen E
after_removal number s = record s {
  known = remove_entry (is_at (nat_cmp number)) s.known;
  unsent = remove_key (is_at (nat_cmp number)) s.unsent;
}

-- a request has ended in this way. Nothing is sent for it any more
abbrev pub after_end : {E : Type 0} → ℕ → E → NumbersSeen E → NumbersSeen E
after_end number end s = record s {
  known = insert_entry nat_cmp s.known number (Ended end);
  unsent = remove_key (is_at (nat_cmp number)) s.unsent;
}

-- the bytes of a request must be returned, or need not
abbrev pub after_mark : {E : Type 0} → ℕ → NumbersSeen E → NumbersSeen E
after_mark number s = record s { unsent = insert_key nat_cmp s.unsent number }

abbrev pub after_unmark : {E : Type 0} → ℕ → NumbersSeen E → NumbersSeen E
after_unmark number s = record s { unsent = remove_key (is_at (nat_cmp number)) s.unsent }

-- the current message of a request has another transaction ID
abbrev pub after_rename : {E : Type 0} → ℕ → ℕ → NumbersSeen E → NumbersSeen E
after_rename number id s =
    record s { known = insert_entry nat_cmp s.known number (Outstanding id) }

-- ---- which one is next

-- the first request whose bytes were not returned yet
abbrev pub first_in : List ℕ → Option ℕ
first_in [] = None
first_in (number ∷ others) = Some number

abbrev pub others_in : List ℕ → List ℕ
others_in [] = []
others_in (number ∷ others) = others

abbrev pub first_unsent : {E : Type 0} → NumbersSeen E → Option ℕ
first_unsent s = first_in s.unsent

-- its bytes are returned
abbrev pub without_first_unsent : {E : Type 0} → NumbersSeen E → NumbersSeen E
without_first_unsent s = record s { unsent = others_in s.unsent }

-- the first request that has ended
abbrev pub first_ended : {E : Type 0} → NumbersSeen E → Option ℕ
first_ended s = option_map (λ e. e.0) (find (λ e. is_ended e.1) s.known)

abbrev pub end_in : {E : Type 0} → Known E → Option E
end_in (Outstanding id) = None
end_in (Ended end) = Some end

-- its number and its end
abbrev pub end_of_first : {E : Type 0} → NumbersSeen E → Option (ℕ × E)
end_of_first s =
    option_and_then
    (λ number. option_map (λ end. (number, end)) (option_and_then end_in (known_at number s.known)))
    (first_ended s)

-- its end is returned
abbrev pub without_first : {E : Type 0} → NumbersSeen E → NumbersSeen E
without_first s = record s {
  known = option_map_or (λ number. remove_entry (is_at (nat_cmp number)) s.known) (first_ended s)
      s.known;
}

-- the first of all requests, if it is outstanding
abbrev pub first_outstanding_in : {E : Type 0} → AllKnown E → Option (ℕ × ℕ)
first_outstanding_in [] = None
first_outstanding_in (e ∷ others) = option_map (λ id. (e.0, id)) (id_in e.1)

abbrev pub first_outstanding : {E : Type 0} → NumbersSeen E → Option (ℕ × ℕ)
first_outstanding s = first_outstanding_in s.known
