-- What a datagram comes to that needs no memory.
use Rattle.std.proofs.Common.{◌≡◌, ◌∙◌, ℕ, Bool, true, false, List, None, Option, Some, ap, refl}
use Rattle.std.proofs.Common.{subst, sym}
use Rattle.std.specs.Prelude.{◌&&◌, ◌||◌, if◌then◌else◌}
use Rattle.std.specs.Option.{is_none, is_some}
use Rattle.std.specs.declared.net.socket_addr.SocketAddr.{SocketAddr}
use Rattle.stun_base.specs.MessageType.{class_in}
use Rattle.stun_base.specs.declared.wire.error.StunParseError.{StunParseError}
use Rattle.stun_types.specs.Message.{refusal}
use Rattle.stun_client.specs.Judging.{Identity, Verdict, judged, needs_memory}
use Rattle.stun_client_endpoint.specs.declared.told.Received.TheVariants.{NotOurs}
use Rattle.stun_client_calls.specs.Clients.{Client, identity_for}
use Rattle.stun_client_calls.specs.Deciding.{is_doubted}
use Rattle.stun_client_calls.specs.Receiving.{Answer, IsDropped, Memory, Met, by_class, heard_in}
use Rattle.stun_client_calls.specs.Receiving.{is_heeded, received, takes_memory, verdict_on}
use Rattle.stun_client_calls.specs.code.Acting.{DropsResponse}

-- ---- judging and deciding

pub impossible : false ≡ true → ⊥
impossible is = cc

neither_first : (a b : Bool) → (a || b) ≡ false → a ≡ false
neither_first true b is = is
neither_first false b is = refl

neither_second : (a b : Bool) → (a || b) ≡ false → b ≡ false
neither_second true b is = cc
neither_second false b is = is

pub judging_free : (c e : Client) (bytes : List ℕ) (m n : Met) (i : Identity) → e ≡ c → n ≡ m
    → i ≡ identity_for e n.asked → takes_memory c bytes m ≡ false
    → needs_memory e.requires_fingerprint i n.signed_for bytes ≡ false
judging_free c e bytes m n i opens meets who free =
    ap (λ (x : Identity). needs_memory e.requires_fingerprint x n.signed_for bytes) who
    ∙ ap (λ (x : Client). needs_memory x.requires_fingerprint (identity_for x n.asked) n.signed_for
    bytes) opens
    ∙ ap (λ (y : Met). needs_memory c.requires_fingerprint (identity_for c y.asked) y.signed_for bytes)
    meets
    ∙ neither_first (needs_memory c.requires_fingerprint (identity_for c m.asked) m.signed_for bytes)
    (is_doubted (verdict_on c bytes m)) free

pub doubting_free : (c e : Client) (bytes : List ℕ) (m n : Met) (v : Verdict) (i : Identity) → e ≡ c
    → n ≡ m → i ≡ identity_for e n.asked
    → v ≡ judged e.requires_fingerprint n.is_current i e.standing n.signed_for bytes
    → takes_memory c bytes m ≡ false → is_doubted v ≡ false
doubting_free c e bytes m n v i opens meets who verdict free =
    ap is_doubted
    (verdict
    ∙ ap (λ (x : Identity). judged e.requires_fingerprint n.is_current x e.standing n.signed_for bytes)
    who
    ∙ ap (λ (x : Client). verdict_on x bytes n) opens
    ∙ ap (λ (y : Met). verdict_on c bytes y) meets)
    ∙ neither_second (needs_memory c.requires_fingerprint (identity_for c m.asked) m.signed_for bytes)
    (is_doubted (verdict_on c bytes m)) free

-- ---- datagrams

abbrev by_parts : Memory → SocketAddr → List ℕ → ℕ → Client → Bool → Answer
by_parts memory from bytes now c is_refused =
    if is_refused then (NotOurs, c) else by_class memory from c now bytes (class_in bytes)

none_of : (o : Option Met) → is_some o ≡ false → o ≡ None
none_of None is = refl
none_of (Some m) is = cc

-- what a message comes to
of_message : (memory : Memory) (from : SocketAddr) (bytes : List ℕ) (now : ℕ) (c : Client)
    → refusal bytes ≡ None
    → by_class memory from c now bytes (class_in bytes) ≡ received memory from bytes now c
of_message memory from bytes now c read =
    sym (ap (λ (o : Option StunParseError). by_parts memory from bytes now c (is_some o)) read)

-- it is heeded if it answers a message
heeded_is : (from : SocketAddr) (bytes : List ℕ) (c : Client) → refusal bytes ≡ None
    → is_heeded from bytes c ≡ is_some (heard_in from bytes c)
heeded_is from bytes c read =
    ap (λ (o : Option StunParseError). is_none o && is_some (heard_in from bytes c)) read

pub unheeded_so : (from : SocketAddr) (bytes message : List ℕ) (now : ℕ) (c : Client)
    (answer : Answer) → message ≡ bytes → refusal bytes ≡ None
    → (heard_in from message c ≡ None → (memory : Memory)
    → answer ≡ by_class memory from c now message (class_in message))
    → is_heeded from bytes c ≡ false → (memory : Memory) → answer ≡ received memory from bytes now c
unheeded_so from bytes message now c answer same read said not memory =
    subst (λ (x : List ℕ). heard_in from x c ≡ None → (memory : Memory)
    → answer ≡ by_class memory from c now x (class_in x)) same said
    (none_of (heard_in from bytes c) (sym (heeded_is from bytes c read) ∙ not)) memory
    ∙ of_message memory from bytes now c read

pub dropped_so_in : (from : SocketAddr) (bytes message : List ℕ) (now : ℕ) (c : Client)
    (answer : Answer) → message ≡ bytes → DropsResponse from message now c answer
    → IsDropped from bytes now c answer
dropped_so_in from bytes message now c answer same drops =
    λ m why heeded found is free.
    subst (λ (x : List ℕ). DropsResponse from x now c answer) same drops m why found is free
