-- What is stored of a request is taken out, and put back with a change.
use Rattle.std.proofs.Common.{◌≡◌, ◌∙◌, ◌∷◌, [], ℕ, Bool, true, false, List, Option, Some, None, ap}
use Rattle.std.proofs.Common.{cond, refl}
use Rattle.std.specs.BTreeMap.{is_at}
use Rattle.std.specs.Map.{set_value}
use Rattle.std.specs.Option.{option_map_or}
use Rattle.std.specs.Ordering.{nat_cmp}
use Rattle.stun_agent.specs.Tables.{with_other_datum}
use Rattle.stun_client_requests.specs.Numbers.{id_at}
use Rattle.stun_client_requests.specs.Requests.{RequestsSeen, after_replacing}

set_twice : {X : Type 0} (p : ℕ → Bool) (es : List (ℕ × X)) (v w : X)
    → set_value p (set_value p es v) w ≡ set_value p es w
set_twice p [] v w = refl
set_twice {X} p (e ∷ es) v w = by (p e.0) refl (set_twice p es v w)
  where
    by : (b : Bool) → p e.0 ≡ b → set_value p (set_value p es v) w ≡ set_value p es w
        → set_value p (cond b ((e.0, v) ∷ es) (e ∷ set_value p es v)) w
        ≡ cond b ((e.0, w) ∷ es) (e ∷ set_value p es w)
    by true is rest = ap (λ b. cond b ((e.0, w) ∷ es) ((e.0, v) ∷ set_value p es w)) is
    by false is rest =
        ap (λ b. cond b ((e.0, w) ∷ set_value p es v) (e ∷ set_value p (set_value p es v) w)) is
        ∙ ap (λ xs. e ∷ xs) rest

-- the last of two data is stored
pub replaced_twice : {D E : Type 0} (n : ℕ) (v w : D) (r : RequestsSeen D E)
    → after_replacing n w (after_replacing n v r) ≡ after_replacing n w r
replaced_twice {D} {E} n v w r = by (id_at n r.numbers) refl
  where
    by : (o : Option ℕ) → id_at n r.numbers ≡ o
        → after_replacing n w (option_map_or (λ id. record r {
          table = with_other_datum id (record { number = n; datum = v }) r.table;
        }) o r)
        ≡ option_map_or (λ id. record r {
          table = with_other_datum id (record { number = n; datum = w }) r.table;
        }) o r
    by None is =
        ap (λ o. option_map_or (λ id. record r {
          table = with_other_datum id (record { number = n; datum = w }) r.table;
        }) o r) is
    by (Some id) is =
        ap (λ o. option_map_or (λ k. record r {
          table = with_other_datum k (record { number = n; datum = w })
              (with_other_datum id (record { number = n; datum = v }) r.table);
        }) o (record r {
          table = with_other_datum id (record { number = n; datum = v }) r.table;
        })) is
        ∙ ap (λ es. record r { table = record r.table { attached = es } })
        (set_twice (is_at (nat_cmp id)) r.table.attached (record { number = n; datum = v })
        (record { number = n; datum = w }))
