-- Two agents that check each other. One of them, the mover, gives way to the other, the holder.
use Rattle.std.proofs.Common.{◌≡◌, ℕ, zero, suc, List, [], ◌∷◌, Bool, true, false, refl, ◌∙◌, sym, ap}
use Rattle.std.proofs.Common.{◌⊎◌, inl, inr, Option, Some, None, arith, ◌<◌, ◌≤◌, subst}
use Rattle.std.specs.Prelude.{if◌then◌else◌, nat_le, nat_lt}
use Rattle.std.specs.List.{AllByRecursion}
use Rattle.std.proofs.lemmas.Bool.{le-leb, lt-ltb, cases_lt}
use Rattle.std.proofs.lemmas.Bool.Decides.{leb_tells}
use Rattle.stun_ice.specs.Conflicts.{Sides, Said, Told, Event, Happening}
use Rattle.stun_ice.specs.Conflicts.{after_all, after_check, after_event, after_told}
use Rattle.stun_ice.specs.Conflicts.{answered, at, beginning, rival_of, settled_role, swapped}
use Rattle.stun_ice.specs.Conflicts.{sends, arrives, hears, of_left, of_right, AreSettled}
use Rattle.stun_ice.specs.Received.{role_after_outcome}
use Rattle.stun_ice.specs.Roles.{is_same_role, opposite, role_after_check, role_after_rival}
use Rattle.stun_ice.specs.declared.received.Outcome.TheVariants.{RoleConflict}
use Rattle.stun_ice.specs.declared.role.Role.{Role}
use Rattle.stun_ice.specs.declared.role.Role.TheVariants.{Controlling, Controlled}

-- ---- lists

-- P holds of the value, if there is one
abbrev pub OfSome : {A : Type 0} → (A → Type 0) → Option A → Type 0
OfSome P None = Unit {0}
OfSome P (Some x) = P x

pub of_at : {A : Type 0} (P : A → Type 0) (xs : List A) (n : ℕ) → AllByRecursion P xs
    → OfSome P (at n xs)
of_at P [] n all = tt
of_at P (x ∷ xs) zero all = all.0
of_at P (x ∷ xs) (suc n) all = of_at P xs n all.1

pub weaker : {A : Type 0} (P Q : A → Type 0) → ((x : A) → P x → Q x) → (xs : List A)
    → AllByRecursion P xs → AllByRecursion Q xs
weaker P Q f [] all = tt
weaker P Q f (x ∷ xs) all = (f x all.0, weaker P Q f xs all.1)

-- ---- roles

same-role : (r : Role) → is_same_role r r ≡ true
same-role Controlling = refl
same-role Controlled = refl

other-role : (r : Role) → is_same_role r (opposite r) ≡ false
other-role Controlling = refl
other-role Controlled = refl

role-other : (r : Role) → is_same_role (opposite r) r ≡ false
role-other Controlling = refl
role-other Controlled = refl

-- by whether two roles are the same
rival-if : (role : Role) (said : Said) (same : Bool) → is_same_role role said.role ≡ same
    → rival_of role said ≡ (if same then Some said.tie_breaker else None)
rival-if role said same is = ap (λ (b : Bool). if b then Some said.tie_breaker else None) is

pub rival-none : (role r q : Role) (said : Said) → role ≡ r → said.role ≡ q
    → is_same_role r q ≡ false → rival_of role said ≡ None
rival-none role r q said e f differ =
    let both : is_same_role role said.role ≡ is_same_role r q = λ i. is_same_role (e i) (f i) in
    rival-if role said false (both ∙ differ)

pub rival-some : (role r : Role) (said : Said) → role ≡ r → said.role ≡ r
    → rival_of role said ≡ Some said.tie_breaker
rival-some role r said e f =
    let both : is_same_role role said.role ≡ is_same_role r r = λ i. is_same_role (e i) (f i) in
    rival-if role said true (both ∙ same-role r)

-- a check of an agent with another role changes nothing
pub no-conflict : (role r q : Role) (tie : ℕ) (said : Said) → role ≡ r → said.role ≡ q
    → is_same_role r q ≡ false → role_after_check role tie (rival_of role said) ≡ Some role
no-conflict role r q tie said e f differ =
    ap (role_after_check role tie) (rival-none role r q said e f differ)

-- a check of an agent with the same role is judged by the tie-breakers
pub conflict : (role r : Role) (tie ours theirs : ℕ) (said : Said) → role ≡ r → tie ≡ ours
    → said.role ≡ r → said.tie_breaker ≡ theirs
    → role_after_check role tie (rival_of role said) ≡ role_after_check r ours (Some theirs)
conflict role r tie ours theirs said e t f u =
    let rival : rival_of role said ≡ Some theirs = rival-some role r said e f ∙ ap Some u in
    λ i. role_after_check (e i) (t i) (rival i)

-- the role after a 487 to a check that was sent in the role that the agent has
pub told-same : (role sent r : Role) → role ≡ r → sent ≡ r
    → role_after_outcome role (RoleConflict (is_same_role role sent)) ≡ opposite r
told-same role sent r e f =
    let both : is_same_role role sent ≡ is_same_role r r = λ i. is_same_role (e i) (f i) in
    let same : is_same_role role sent ≡ true = both ∙ same-role r in
    λ i. role_after_outcome (e i) (RoleConflict (same i))

pub told-other : (role sent r : Role) → role ≡ opposite r → sent ≡ r
    → role_after_outcome role (RoleConflict (is_same_role role sent)) ≡ opposite r
told-other role sent r e f =
    let both : is_same_role role sent ≡ is_same_role (opposite r) r = λ i. is_same_role (e i) (f i) in
    let other : is_same_role role sent ≡ false = both ∙ role-other r in
    λ i. role_after_outcome (e i) (RoleConflict (other i))

-- ---- the mover is the left agent

-- a check in a role, with a tie-breaker
abbrev pub SaysOf : Role → ℕ → Said → Type 0
SaysOf r tie said = (said.role ≡ r) × (said.tie_breaker ≡ tie)

abbrev pub IsConflict : Role → Told → Type 0
IsConflict r told = (told.role ≡ r) × (told.conflict ≡ true)

abbrev pub MovedSays : Role → ℕ → Said → Type 0
MovedSays r tie said = SaysOf r tie said ⊎ (said.role ≡ opposite r)

abbrev pub MovedTold : Role → Told → Type 0
MovedTold r told = (told.role ≡ r) ⊎ (told.conflict ≡ false)

-- the mover still has the first role
pub record Waits (r : Role) (tm : ℕ) (s : Sides) : Type 0 where
  pub role : s.left.role ≡ r
  pub tie : s.left.tie_breaker ≡ tm
  pub checks : AllByRecursion (SaysOf r tm) s.left.checks
  pub answers : AllByRecursion (IsConflict r) s.left.answers
  pub none : AllByRecursion (λ (told : Told). ⊥) s.right.answers
  pub left_deaf : s.left.heard ≡ false
  pub right_deaf : s.right.heard ≡ false

-- the mover has given way
pub record Moved (r : Role) (tm : ℕ) (s : Sides) : Type 0 where
  pub role : s.left.role ≡ opposite r
  pub checks : AllByRecursion (MovedSays r tm) s.left.checks
  pub answers : AllByRecursion (MovedTold r) s.left.answers

-- what stays so
pub record Holds (r : Role) (tm tn : ℕ) (s : Sides) : Type 0 where
  pub role : s.right.role ≡ r
  pub tie : s.right.tie_breaker ≡ tn
  pub checks : AllByRecursion (SaysOf r tn) s.right.checks
  pub told : AllByRecursion (λ (told : Told). told.conflict ≡ false) s.right.answers
  pub phase : Waits r tm s ⊎ Moved r tm s

module _ (r : Role) (tm tn : ℕ) (refuses : role_after_check r tn (Some tm) ≡ None)
    (moves : role_after_check r tm (Some tn) ≡ Some (opposite r)) where
  -- the mover sends
  sent : (s : Sides) → Holds r tm tn s → Holds r tm tn (after_event s sends)
  sent s h = record {
    role = h.role;
    tie = h.tie;
    checks = h.checks;
    told = h.told;
    phase = elim h.phase [
      | inl w ↦ inl (record {
        role = w.role;
        tie = w.tie;
        checks = ((w.role, w.tie), w.checks);
        answers = w.answers;
        none = w.none;
        left_deaf = w.left_deaf;
        right_deaf = w.right_deaf;
      })
      | inr m ↦ inr (record {
        role = m.role;
        checks = (inr m.role, m.checks);
        answers = m.answers;
      })
    ];
  }

  -- a check of the mover in its first role arrives, and is refused
  refused : (s : Sides) (said : Said) → Holds r tm tn s → SaysOf r tm said
      → Holds r tm tn (after_check s (Some said))
  refused s said h of =
      let none : role_after_check s.right.role s.right.tie_breaker (rival_of s.right.role said)
      ≡ None = conflict s.right.role r s.right.tie_breaker tn tm said h.role h.tie of.0 of.1 ∙ refuses in
      let now : Holds r tm tn (answered s said None) =
      record {
        role = h.role;
        tie = h.tie;
        checks = h.checks;
        told = h.told;
        phase = elim h.phase [
          | inl w ↦ inl (record {
            role = w.role;
            tie = w.tie;
            checks = w.checks;
            answers = ((of.0, refl), w.answers);
            none = w.none;
            left_deaf = w.left_deaf;
            right_deaf = w.right_deaf;
          })
          | inr m ↦ inr (record {
            role = m.role;
            checks = m.checks;
            answers = (inl of.0, m.answers);
          })
        ];
      } in
      subst (λ (o : Option Role). Holds r tm tn (answered s said o)) (sym none) now

  -- a check of the mover in its second role arrives, and is accepted
  accepted : (s : Sides) (said : Said) → Holds r tm tn s → Moved r tm s → said.role ≡ opposite r
      → Holds r tm tn (after_check s (Some said))
  accepted s said h m of =
      let some : role_after_check s.right.role s.right.tie_breaker (rival_of s.right.role said)
      ≡ Some s.right.role =
      no-conflict s.right.role r (opposite r) s.right.tie_breaker said h.role of (other-role r) in
      let now : Holds r tm tn (answered s said (Some s.right.role)) =
      record {
        role = h.role;
        tie = h.tie;
        checks = h.checks;
        told = h.told;
        phase = inr (record {
          role = m.role;
          checks = m.checks;
          answers = (inr refl, m.answers);
        });
      } in
      subst (λ (o : Option Role). Holds r tm tn (answered s said o)) (sym some) now

  arrived-waiting : (s : Sides) (o : Option Said) → Holds r tm tn s → OfSome (SaysOf r tm) o
      → Holds r tm tn (after_check s o)
  arrived-waiting s None h of = h
  arrived-waiting s (Some said) h of = refused s said h of

  arrived-moved : (s : Sides) (o : Option Said) → Holds r tm tn s → Moved r tm s
      → OfSome (MovedSays r tm) o → Holds r tm tn (after_check s o)
  arrived-moved s None h m of = h
  arrived-moved s (Some said) h m (inl of) = refused s said h of
  arrived-moved s (Some said) h m (inr of) = accepted s said h m of

  arrived : (s : Sides) (n : ℕ) → Waits r tm s ⊎ Moved r tm s → Holds r tm tn s
      → Holds r tm tn (after_event s (arrives n))
  arrived s n (inl w) h =
      arrived-waiting s (at n s.left.checks) h (of_at (SaysOf r tm) s.left.checks n w.checks)
  arrived s n (inr m) h =
      arrived-moved s (at n s.left.checks) h m (of_at (MovedSays r tm) s.left.checks n m.checks)

  -- the mover gives way: it hears of a conflict, in either phase
  gives_way : (s : Sides) (fresh : ℕ) → Holds r tm tn s → Moved r tm s
      → (role : Role) → role ≡ opposite r
      → Holds r tm tn (record s {
        left = record s.left { role = role; tie_breaker = fresh; heard = true };
      })
  gives_way s fresh h m role is = record {
    role = h.role;
    tie = h.tie;
    checks = h.checks;
    told = h.told;
    phase = inr (record { role = is; checks = m.checks; answers = m.answers });
  }

  hears_it : (s : Sides) → Holds r tm tn s → Moved r tm s
      → Holds r tm tn (record s { left = record s.left { heard = true } })
  hears_it s h m = record {
    role = h.role;
    tie = h.tie;
    checks = h.checks;
    told = h.told;
    phase = inr (record { role = m.role; checks = m.checks; answers = m.answers });
  }

  -- the mover hears of a conflict, and gives way if it has not yet
  by_conflict : (s : Sides) (fresh : ℕ) (sent : Role) (c : Bool) → Holds r tm tn s
      → Moved r tm s → sent ≡ r ⊎ (c ≡ false)
      → Holds r tm tn (record s {
        left = after_told s.left fresh (Some (record { role = sent; conflict = c }));
      })
  by_conflict s fresh sent true h m (inl e) =
      gives_way s fresh h m _
      (told-other s.left.role sent r m.role e)
  by_conflict s fresh sent true h m (inr e) = cc
  by_conflict s fresh sent false h m e = hears_it s h m

  first_conflict : (s : Sides) (fresh : ℕ) (sent : Role) (c : Bool) → Holds r tm tn s
      → Waits r tm s → sent ≡ r → c ≡ true
      → Holds r tm tn (record s {
        left = after_told s.left fresh (Some (record { role = sent; conflict = c }));
      })
  first_conflict s fresh sent true h w e f = record {
    role = h.role;
    tie = h.tie;
    checks = h.checks;
    told = h.told;
    phase = inr (record {
      role = told-same s.left.role sent r w.role e;
      checks = weaker (SaysOf r tm) (MovedSays r tm) (λ c of. inl of) s.left.checks w.checks;
      answers = weaker (IsConflict r) (MovedTold r) (λ t of. inl of.0) s.left.answers w.answers;
    });
  }
  first_conflict s fresh sent false h w e f = cc

  heard-waiting : (s : Sides) (fresh : ℕ) (o : Option Told) → Holds r tm tn s → Waits r tm s
      → OfSome (IsConflict r) o → Holds r tm tn (record s { left = after_told s.left fresh o })
  heard-waiting s fresh None h w of = h
  heard-waiting s fresh (Some told) h w of =
      first_conflict s fresh told.role told.conflict h w of.0 of.1

  heard-moved : (s : Sides) (fresh : ℕ) (o : Option Told) → Holds r tm tn s → Moved r tm s
      → OfSome (MovedTold r) o → Holds r tm tn (record s { left = after_told s.left fresh o })
  heard-moved s fresh None h m of = h
  heard-moved s fresh (Some told) h m of = by_conflict s fresh told.role told.conflict h m of

  heard : (s : Sides) (n fresh : ℕ) → Waits r tm s ⊎ Moved r tm s → Holds r tm tn s
      → Holds r tm tn (after_event s (hears n fresh))
  heard s n fresh (inl w) h =
      heard-waiting s fresh (at n s.left.answers) h w (of_at (IsConflict r) s.left.answers n w.answers)
  heard s n fresh (inr m) h =
      heard-moved s fresh (at n s.left.answers) h m (of_at (MovedTold r) s.left.answers n m.answers)

  pub mover_does : (s : Sides) (event : Event) → Holds r tm tn s
      → Holds r tm tn (after_event s event)
  mover_does s sends h = sent s h
  mover_does s (arrives n) h = arrived s n h.phase h
  mover_does s (hears n fresh) h = heard s n fresh h.phase h

  -- ---- the events of the holder

  -- the holder sends
  holder_sent : (s : Sides) → Holds r tm tn s
      → Holds r tm tn (swapped (after_event (swapped s) sends))
  holder_sent s h = record {
    role = h.role;
    tie = h.tie;
    checks = ((h.role, h.tie), h.checks);
    told = h.told;
    phase = elim h.phase [
      | inl w ↦ inl (record {
        role = w.role;
        tie = w.tie;
        checks = w.checks;
        answers = w.answers;
        none = w.none;
        left_deaf = w.left_deaf;
        right_deaf = w.right_deaf;
      })
      | inr m ↦ inr (record { role = m.role; checks = m.checks; answers = m.answers })
    ];
  }

  -- a check of the holder arrives at the mover, which gives way if it has not yet
  holder_moves : (s : Sides) (said : Said) → Holds r tm tn s → Waits r tm s → SaysOf r tn said
      → Holds r tm tn (swapped (after_check (swapped s) (Some said)))
  holder_moves s said h w of =
      let some : role_after_check s.left.role s.left.tie_breaker (rival_of s.left.role said)
      ≡ Some (opposite r) =
      conflict s.left.role r s.left.tie_breaker tm tn said w.role w.tie of.0 of.1 ∙ moves in
      subst (λ (o : Option Role). Holds r tm tn (swapped (answered (swapped s) said o))) (sym some)
      (record {
        role = h.role;
        tie = h.tie;
        checks = h.checks;
        told = (refl, h.told);
        phase = inr (record {
          role = refl;
          checks = weaker (SaysOf r tm) (MovedSays r tm) (λ c of. inl of) s.left.checks w.checks;
          answers = weaker (IsConflict r) (MovedTold r) (λ t of. inl of.0) s.left.answers w.answers;
        });
      })

  holder_stays : (s : Sides) (said : Said) → Holds r tm tn s → Moved r tm s → SaysOf r tn said
      → Holds r tm tn (swapped (after_check (swapped s) (Some said)))
  holder_stays s said h m of =
      let some : role_after_check s.left.role s.left.tie_breaker (rival_of s.left.role said)
      ≡ Some s.left.role =
      no-conflict s.left.role (opposite r) r s.left.tie_breaker said m.role of.0 (role-other r) in
      subst (λ (o : Option Role). Holds r tm tn (swapped (answered (swapped s) said o))) (sym some)
      (record {
        role = h.role;
        tie = h.tie;
        checks = h.checks;
        told = (refl, h.told);
        phase = inr (record { role = m.role; checks = m.checks; answers = m.answers });
      })

  holder_arrived : (s : Sides) (o : Option Said) → Waits r tm s ⊎ Moved r tm s → Holds r tm tn s
      → OfSome (SaysOf r tn) o → Holds r tm tn (swapped (after_check (swapped s) o))
  holder_arrived s None phase h of = h
  holder_arrived s (Some said) (inl w) h of = holder_moves s said h w of
  holder_arrived s (Some said) (inr m) h of = holder_stays s said h m of

  -- the holder hears no conflict, and nothing before the mover has given way
  holder_hears : (s : Sides) (fresh : ℕ) (sent : Role) (c : Bool) → Holds r tm tn s → Moved r tm s
      → c ≡ false
      → Holds r tm tn (swapped (record (swapped s) {
        left = after_told s.right fresh (Some (record { role = sent; conflict = c }));
      }))
  holder_hears s fresh sent true h m e = cc
  holder_hears s fresh sent false h m e = record {
    role = h.role;
    tie = h.tie;
    checks = h.checks;
    told = h.told;
    phase = inr (record { role = m.role; checks = m.checks; answers = m.answers });
  }

  holder_heard-moved : (s : Sides) (fresh : ℕ) (o : Option Told) → Holds r tm tn s → Moved r tm s
      → OfSome (λ (told : Told). told.conflict ≡ false) o
      → Holds r tm tn (swapped (record (swapped s) { left = after_told s.right fresh o }))
  holder_heard-moved s fresh None h m of = h
  holder_heard-moved s fresh (Some told) h m of =
      holder_hears s fresh told.role told.conflict h m of

  holder_heard-waiting : (s : Sides) (fresh : ℕ) (o : Option Told) → Holds r tm tn s
      → OfSome (λ (told : Told). ⊥) o
      → Holds r tm tn (swapped (record (swapped s) { left = after_told s.right fresh o }))
  holder_heard-waiting s fresh None h of = h
  holder_heard-waiting s fresh (Some told) h of = absurd of

  holder_heard : (s : Sides) (n fresh : ℕ) → Waits r tm s ⊎ Moved r tm s → Holds r tm tn s
      → Holds r tm tn (swapped (after_event (swapped s) (hears n fresh)))
  holder_heard s n fresh (inl w) h =
      holder_heard-waiting s fresh (at n s.right.answers) h
      (of_at (λ (told : Told). ⊥) s.right.answers n w.none)
  holder_heard s n fresh (inr m) h =
      holder_heard-moved s fresh (at n s.right.answers) h m
      (of_at (λ (told : Told). told.conflict ≡ false) s.right.answers n h.told)

  pub holder_does : (s : Sides) (event : Event) → Holds r tm tn s
      → Holds r tm tn (swapped (after_event (swapped s) event))
  holder_does s sends h = holder_sent s h
  holder_does s (arrives n) h =
      holder_arrived s (at n s.right.checks) h.phase h
      (of_at (SaysOf r tn) s.right.checks n h.checks)
  holder_does s (hears n fresh) h = holder_heard s n fresh h.phase h

  -- ---- any events

  -- the mover is the left agent
  pub left_moves : (s : Sides) (events : List Happening) → Holds r tm tn s
      → Holds r tm tn (after_all s events)
  left_moves s [] h = h
  left_moves s (of_left event ∷ events) h =
      left_moves (after_event s event) events (mover_does s event h)
  left_moves s (of_right event ∷ events) h =
      left_moves (swapped (after_event (swapped s) event)) events (holder_does s event h)

  -- the mover is the right agent
  pub right_moves : (s : Sides) (events : List Happening) → Holds r tm tn (swapped s)
      → Holds r tm tn (swapped (after_all s events))
  right_moves s [] h = h
  right_moves s (of_left event ∷ events) h =
      right_moves (after_event s event) events (holder_does (swapped s) event h)
  right_moves s (of_right event ∷ events) h =
      right_moves (swapped (after_event (swapped s) event)) events (mover_does (swapped s) event h)

  pub begins : Holds r tm tn (record { left = beginning r tm; right = beginning r tn })
  begins = record {
    role = refl;
    tie = refl;
    checks = tt;
    told = tt;
    phase = inl (record {
      role = refl;
      tie = refl;
      checks = tt;
      answers = tt;
      none = tt;
      left_deaf = refl;
      right_deaf = refl;
    });
  }

-- ---- what the law says

abbrev pub Begins : Role → Sides → Type 0
Begins role s =
    (s.left.role ≡ role) × (s.right.role ≡ role) × (s.left.heard ≡ false) × (s.right.heard ≡ false)

from_left : (r : Role) (tm tn : ℕ) (s : Sides) → Holds r tm tn s → settled_role tm tn ≡ opposite r
    → opposite (opposite r) ≡ r → Begins r s ⊎ AreSettled tm tn s
from_left r tm tn s h settled twice =
    elim h.phase [
      | inl w ↦ inl (w.role, h.role, w.left_deaf, w.right_deaf)
      | inr m ↦ inr (record {
        left = m.role ∙ sym settled;
        right = h.role ∙ sym (ap opposite settled ∙ twice);
      })
    ]

from_right : (r : Role) (tm tn : ℕ) (s : Sides) → Holds r tm tn (swapped s)
    → settled_role tn tm ≡ r → Begins r s ⊎ AreSettled tn tm s
from_right r tm tn s h settled =
    elim h.phase [
      | inl w ↦ inl (h.role, w.role, w.right_deaf, w.left_deaf)
      | inr m ↦ inr (record {
        left = h.role ∙ sym settled;
        right = m.role ∙ sym (ap opposite settled);
      })
    ]

-- by which tie-breaker is the larger one
larger-controls : (one other : ℕ) → other < one → settled_role one other ≡ Controlling
larger-controls one other less =
    ap (λ (b : Bool). if b then Controlling else Controlled) (lt-ltb other one less)

clash : (one other : ℕ) → one < other → other ≤ one → ⊥
clash one other less most = omega arith

not_less : (one other : ℕ) → one < other → nat_lt other one ≡ false
not_less one other less =
    elim (leb_tells (suc other) one) [
      | inl told ↦ absurd (clash one (suc other) (omega arith) told.1)
      | inr told ↦ told.0
    ]

smaller-is_controlled : (one other : ℕ) → one < other → settled_role one other ≡ Controlled
smaller-is_controlled one other less =
    ap (λ (b : Bool). if b then Controlling else Controlled) (not_less one other less)

not_at_most : (one other : ℕ) → one < other → nat_le other one ≡ false
not_at_most one other less =
    elim (leb_tells other one) [
      | inl told ↦ absurd (clash one other less told.1)
      | inr told ↦ told.0
    ]

-- two agents that begin in one role
abbrev pub start : Role → ℕ → ℕ → Sides
start role left right = record { left = beginning role left; right = beginning role right }

-- which agent gives way, by the tie-breakers
settles-less : (role : Role) (left right : ℕ) → left < right → (events : List Happening)
    → let both = after_all
    (record { left = beginning role left; right = beginning role right }) events in
    Begins role both ⊎ AreSettled left right both
settles-less Controlling left right less events =
    let refuses : role_after_check Controlling right (Some left) ≡ None =
    ap (role_after_rival Controlling) (le-leb left right (omega arith)) in
    let moves : role_after_check Controlling left (Some right) ≡ Some Controlled =
    ap (role_after_rival Controlling) (not_at_most left right less) in
    from_left Controlling left right (after_all (start Controlling left right) events)
    (left_moves Controlling left right refuses moves (start Controlling left right) events
    (begins Controlling left right refuses moves))
    (smaller-is_controlled left right less) refl
settles-less Controlled left right less events =
    let refuses : role_after_check Controlled left (Some right) ≡ None =
    ap (role_after_rival Controlled) (not_at_most left right less) in
    let moves : role_after_check Controlled right (Some left) ≡ Some Controlling =
    ap (role_after_rival Controlled) (le-leb left right (omega arith)) in
    from_right Controlled right left (after_all (start Controlled left right) events)
    (right_moves Controlled right left refuses moves (start Controlled left right) events
    (begins Controlled right left refuses moves))
    (smaller-is_controlled left right less)

settles-more : (role : Role) (left right : ℕ) → right < left → (events : List Happening)
    → let both = after_all
    (record { left = beginning role left; right = beginning role right }) events in
    Begins role both ⊎ AreSettled left right both
settles-more Controlled left right less events =
    let refuses : role_after_check Controlled right (Some left) ≡ None =
    ap (role_after_rival Controlled) (not_at_most right left less) in
    let moves : role_after_check Controlled left (Some right) ≡ Some Controlling =
    ap (role_after_rival Controlled) (le-leb right left (omega arith)) in
    from_left Controlled left right (after_all (start Controlled left right) events)
    (left_moves Controlled left right refuses moves (start Controlled left right) events
    (begins Controlled left right refuses moves))
    (larger-controls left right less) refl
settles-more Controlling left right less events =
    let refuses : role_after_check Controlling left (Some right) ≡ None =
    ap (role_after_rival Controlling) (le-leb right left (omega arith)) in
    let moves : role_after_check Controlling right (Some left) ≡ Some Controlled =
    ap (role_after_rival Controlling) (not_at_most right left less) in
    from_right Controlling right left (after_all (start Controlling left right) events)
    (right_moves Controlling right left refuses moves (start Controlling left right) events
    (begins Controlling right left refuses moves))
    (larger-controls left right less)

less_of : {left right : ℕ} → right ≤ left → (left ≡ right → ⊥) → right < left
less_of most differ = omega (arith, differ)

pub settles : (role : Role) (left right : ℕ) → (left ≡ right → ⊥) → (events : List Happening)
    → let both = after_all
    (record { left = beginning role left; right = beginning role right }) events in
    Begins role both ⊎ AreSettled left right both
settles role left right differ events =
    elim (cases_lt left right) [
      | inl less ↦ settles-less role left right less events
      | inr most ↦ settles-more role left right (less_of most differ) events
    ]

-- ---- agents with opposite roles

-- each check is sent in the role of its sender, and no answer is a 487
pub record Apart (r q : Role) (s : Sides) : Type 0 where
  pub left : s.left.role ≡ r
  pub right : s.right.role ≡ q
  pub left_checks : AllByRecursion (λ (said : Said). said.role ≡ r) s.left.checks
  pub right_checks : AllByRecursion (λ (said : Said). said.role ≡ q) s.right.checks
  pub left_told : AllByRecursion (λ (told : Told). told.conflict ≡ false) s.left.answers
  pub right_told : AllByRecursion (λ (told : Told). told.conflict ≡ false) s.right.answers

module _ (r q : Role) (differ : is_same_role q r ≡ false) where
  apart-after_check : (s : Sides) (o : Option Said) → Apart r q s
      → OfSome (λ (said : Said). said.role ≡ r) o → Apart r q (after_check s o)
  apart-after_check s None h of = h
  apart-after_check s (Some said) h of =
      let some : role_after_check s.right.role s.right.tie_breaker (rival_of s.right.role said)
      ≡ Some s.right.role =
      no-conflict s.right.role q r s.right.tie_breaker said h.right of differ in
      let now : Apart r q (answered s said (Some s.right.role)) =
      record {
        left = h.left;
        right = h.right;
        left_checks = h.left_checks;
        right_checks = h.right_checks;
        left_told = (refl, h.left_told);
        right_told = h.right_told;
      } in
      subst (λ (o : Option Role). Apart r q (answered s said o)) (sym some) now

  apart-told : (s : Sides) (fresh : ℕ) (sent : Role) (c : Bool) → Apart r q s → c ≡ false
      → Apart r q (record s {
        left = after_told s.left fresh (Some (record { role = sent; conflict = c }));
      })
  apart-told s fresh sent true h e = cc
  apart-told s fresh sent false h e = record {
    left = h.left;
    right = h.right;
    left_checks = h.left_checks;
    right_checks = h.right_checks;
    left_told = h.left_told;
    right_told = h.right_told;
  }

  apart-after_told : (s : Sides) (fresh : ℕ) (o : Option Told) → Apart r q s
      → OfSome (λ (told : Told). told.conflict ≡ false) o
      → Apart r q (record s { left = after_told s.left fresh o })
  apart-after_told s fresh None h of = h
  apart-after_told s fresh (Some told) h of = apart-told s fresh told.role told.conflict h of

  pub apart-after_event : (s : Sides) (event : Event) → Apart r q s
      → Apart r q (after_event s event)
  apart-after_event s sends h = record {
    left = h.left;
    right = h.right;
    left_checks = (h.left, h.left_checks);
    right_checks = h.right_checks;
    left_told = h.left_told;
    right_told = h.right_told;
  }
  apart-after_event s (arrives n) h =
      apart-after_check s (at n s.left.checks) h
      (of_at (λ (said : Said). said.role ≡ r) s.left.checks n h.left_checks)
  apart-after_event s (hears n fresh) h =
      apart-after_told s fresh (at n s.left.answers) h
      (of_at (λ (told : Told). told.conflict ≡ false) s.left.answers n h.left_told)

apart-swapped : (r q : Role) (s : Sides) → Apart r q s → Apart q r (swapped s)
apart-swapped r q s h = record {
  left = h.right;
  right = h.left;
  left_checks = h.right_checks;
  right_checks = h.left_checks;
  left_told = h.right_told;
  right_told = h.left_told;
}

apart-after_all : (r : Role) (s : Sides) (events : List Happening) → Apart r (opposite r) s
    → Apart r (opposite r) (after_all s events)
apart-after_all r s [] h = h
apart-after_all r s (of_left event ∷ events) h =
    apart-after_all r (after_event s event) events
    (apart-after_event r (opposite r) (role-other r) s event h)
apart-after_all r s (of_right event ∷ events) h =
    apart-after_all r (swapped (after_event (swapped s) event)) events
    (apart-swapped (opposite r) r (after_event (swapped s) event)
    (apart-after_event (opposite r) r (other-role r) (swapped s) event
    (apart-swapped r (opposite r) s h)))

pub stay_apart : (r : Role) (left right : ℕ) (events : List Happening)
    → let both = after_all
    (record { left = beginning r left; right = beginning (opposite r) right }) events in
    (both.left.role ≡ r) × (both.right.role ≡ opposite r)
stay_apart r left right events =
    let h = apart-after_all r
    (record { left = beginning r left; right = beginning (opposite r) right }) events
    (record {
      left = refl;
      right = refl;
      left_checks = tt;
      right_checks = tt;
      left_told = tt;
      right_told = tt;
    }) in
    (h.left, h.right)
