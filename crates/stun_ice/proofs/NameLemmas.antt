-- A USERNAME names an agent first if and only if it is its name, a colon and what follows.
use Rattle.std.proofs.Common.{◌≡◌, ◌↔◌, ℕ, List, ◌++◌, length, Bool, true, false, refl, ◌∙◌}
use Rattle.std.proofs.Common.{sym, ap}
use Rattle.std.proofs.Common.{Option, Some, None}
use Rattle.std.proofs.lemmas.List.{append_assoc, take-append-drop}
use Rattle.std.proofs.lemmas.Slice.Eq.{bytes_eq-Decides}
use Rattle.std.proofs.Math.Seq.{drop-append_seam, take-append_seam}
use Rattle.std.specs.Option.{is_some, option_and_then}
use Rattle.std.specs.Prelude.{codes, drop, take, if◌then◌else◌}
use Rattle.std.specs.Str.{bytes_eq}
use Rattle.stun_base.specs.Keys.{with_colon}
use Rattle.stun_ice.specs.Agent.{Agent, after_front, peer_name_in}
use Rattle.stun_ice.specs.Checks.{sender_in}
use Rattle.stun_ice.specs.Parts.{username_in}

-- ---- a front

-- what a test of a front that holds says
fronted : (b : Bool) (front bytes rest : List ℕ) → bytes_eq (take (length front) bytes) front ≡ b
    → (if b then Some (drop (length front) bytes) else None) ≡ Some rest → bytes ≡ front ++ rest
fronted true front bytes rest is h =
    let head : take (length front) bytes ≡ front =
    (bytes_eq-Decides (take (length front) bytes) front).0 is in
    let tail : drop (length front) bytes ≡ rest = cc in
    sym (take-append-drop (length front) bytes) ∙ (λ i. head i ++ tail i)
fronted false front bytes rest is h = cc

pub after_front-means : (front bytes rest : List ℕ) → after_front front bytes ≡ Some rest
    → bytes ≡ front ++ rest
after_front-means front bytes rest h =
    fronted (bytes_eq (take (length front) bytes) front) front bytes rest refl h

pub after_front-append : (front rest : List ℕ) → after_front front (front ++ rest) ≡ Some rest
after_front-append front rest =
    let head = take (length front) (front ++ rest) in
    let same : bytes_eq head front ≡ true =
    (bytes_eq-Decides head front).1 (take-append_seam front rest) in
    ap (λ (b : Bool). if b then Some (drop (length front) (front ++ rest)) else None) same
    ∙ ap Some (drop-append_seam front rest)

-- ---- a name

named : (o : Option (List ℕ)) (name username peer : List ℕ) → after_front name username ≡ o
    → option_and_then (λ rest. after_front (codes ":") rest) o ≡ Some peer
    → username ≡ with_colon name peer
named None name username peer is h = cc
named (Some rest) name username peer is h =
    after_front-means name username rest is
    ∙ ap (λ (tail : List ℕ). name ++ tail) (after_front-means (codes ":") rest peer h)
    ∙ sym (append_assoc name (codes ":") peer)

pub peer_name-means : (name username peer : List ℕ) → peer_name_in name username ≡ Some peer
    → username ≡ with_colon name peer
peer_name-means name username peer h = named (after_front name username) name username peer refl h

pub peer_name-with_colon : (name peer : List ℕ)
    → peer_name_in name (with_colon name peer) ≡ Some peer
peer_name-with_colon name peer =
    ap (peer_name_in name) (append_assoc name (codes ":") peer)
    ∙ ap (option_and_then (λ rest. after_front (codes ":") rest))
    (after_front-append name (codes ":" ++ peer))
    ∙ after_front-append (codes ":") peer

some-of : {A : Type 0} (o : Option A) → is_some o ≡ true → (x : A) × (o ≡ Some x)
some-of None h = cc
some-of (Some x) h = (x, refl)

-- a name that is accepted names the agent first
pub is_named-means : (name username : List ℕ) → is_some (peer_name_in name username) ≡ true
    → (peer : List ℕ) × (username ≡ with_colon name peer)
is_named-means name username h =
    let found = some-of (peer_name_in name username) h in
    (found.0, peer_name-means name username found.0 found.1)

pub is_named-with_colon : (name peer : List ℕ)
    → is_some (peer_name_in name (with_colon name peer)) ≡ true
is_named-with_colon name peer = ap is_some (peer_name-with_colon name peer)

-- ---- the sender of a check

sent-by : (o : Option (List ℕ)) (name peer : List ℕ)
    → option_and_then (λ username. peer_name_in name username) o ≡ Some peer
    → o ≡ Some (with_colon name peer)
sent-by None name peer h = cc
sent-by (Some username) name peer h = ap Some (peer_name-means name username peer h)

pub sender-iff : (a : Agent) (bytes peer : List ℕ)
    → (sender_in a bytes ≡ Some peer) ↔ (username_in bytes ≡ Some (with_colon a.name peer))
sender-iff a bytes peer = (
  sent-by (username_in bytes) a.name peer,
  λ h. ap (option_and_then (λ username. peer_name_in a.name username)) h
      ∙ peer_name-with_colon a.name peer,
)
