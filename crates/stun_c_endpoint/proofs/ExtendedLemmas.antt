-- What becomes of a check with further attributes, by how far it comes.
use Rattle.std.proofs.Common.{◌≡◌, ◌⊎◌, ℕ, List, Bool, true, Option, Some, None, Result, Ok, Err}
use Rattle.std.proofs.Common.{ap, inl, inr, refl, subst}
use Rattle.std.specs.Prelude.{IfSome, IsOkUnless, MatchOption}
use Rattle.std.specs.declared.net.socket_addr.SocketAddr.{SocketAddr}
use Rattle.stun_base.specs.declared.wire.error.StunWriteError.{StunWriteError}
use Rattle.stun_base.specs.declared.wire.error.StunWriteError.TheVariants as Write
use Rattle.stun_types.specs.WriteVec.{Written}
use Rattle.stun_ice.specs.Agent.{Agent, Peer, SentCheck, can_nominate, check_page, ending_refusal}
use Rattle.stun_ice.specs.Agent.{sent_page}
use Rattle.stun_ice.specs.declared.checker.CheckError.{CheckError}
use Rattle.stun_ice.specs.declared.checker.CheckError.TheVariants as Unwritten
use Rattle.stun_numbers.specs.Refusals.{refusal_of_write}
use Rattle.stun_numbers.specs.declared.refusal.Refusal.{Refusal}
use Rattle.stun_numbers.specs.declared.refusal.Refusal.TheVariants.{CannotSign, OutOfMemory}
use Rattle.stun_c_endpoint.specs.Extended.{AddsFurther, Extends, ExtendsTo, refusal_of_page}

-- what a check is asked for with
pub record Asked : Type 0 where
  pub agent : Agent
  pub id : ℕ
  pub to : SocketAddr
  pub priority : ℕ
  pub nominate : Bool
  pub body : List ℕ

-- what the agent writes if this is its peer
abbrev pub Writes : Asked → Option Peer → Result SentCheck Refusal → Type 0
Writes x peer result =
    MatchOption peer (result ≡ Err CannotSign)
    (λ p. (result ≡ Err OutOfMemory)
    ⊎ ExtendsTo x.agent p x.id x.to x.priority x.nominate x.body result)

-- what begins a check, and why it may fail
abbrev pub Begins : Option Peer → Result Written CheckError → Type 0
Begins peer begun =
    MatchOption peer (begun ≡ Err Unwritten.NoRemote)
    (λ p. IsOkUnless begun Unwritten.OutOfMemory)

abbrev pub Begun : Asked → Option Peer → List ℕ → Type 0
Begun x peer page =
    IfSome peer
    (λ p. page ≡ check_page x.agent p x.id x.priority (can_nominate x.agent.role x.nominate))

unadded_to : (x : Asked) (peer : Option Peer) (page : Written) (refusal : Refusal)
    → Begins peer (Ok page) → Begun x peer page.bytes
    → (refusal ≡ OutOfMemory) ⊎ AddsFurther page.bytes x.body (Err refusal)
    → Writes x peer (Err refusal)
unadded_to x None page refusal there begun why = cc
unadded_to x (Some p) page refusal there begun (inl memory) = inl (ap (λ r. Err r) memory)
unadded_to x (Some p) page refusal there begun (inr adds) =
    inr (Err refusal, subst (λ l. AddsFurther l x.body (Err refusal)) begun adds, refl)

-- the end of a check that is refused
abbrev pub Unended : Option Peer → List ℕ → Result SentCheck StunWriteError → StunWriteError → Type 0
Unended peer whole ended why =
    MatchOption peer (ended ≡ Err Write.NotAllowed)
    (λ p. (why ≡ Write.OutOfMemory) ⊎ (ending_refusal p.password whole ≡ Some why))

unended_to : (x : Asked) (peer : Option Peer) (page whole : Written) (why : StunWriteError)
    → Begins peer (Ok page) → Begun x peer page.bytes
    → AddsFurther page.bytes x.body (Ok whole.bytes) → Unended peer whole.bytes (Err why) why
    → Writes x peer (Err (refusal_of_write true why))
unended_to x None page whole why there begun adds refused = cc
unended_to x (Some p) page whole why there begun adds (inl memory) =
    inl (ap (λ w. Err (refusal_of_write true w)) memory)
unended_to x (Some p) page whole why there begun adds (inr is) =
    inr (
      Ok whole.bytes,
      subst (λ l. AddsFurther l x.body (Ok whole.bytes)) begun adds,
      ap refusal_of_page is,
    )

ended_to : (x : Asked) (peer : Option Peer) (page whole : Written) (check : SentCheck)
    → Begins peer (Ok page) → Begun x peer page.bytes
    → AddsFurther page.bytes x.body (Ok whole.bytes)
    → IfSome peer (λ p. check ≡ sent_page x.agent p x.id x.to x.nominate whole.bytes)
    → Writes x peer (Ok check)
ended_to x None page whole check there begun adds is = cc
ended_to x (Some p) page whole check there begun adds is =
    inr (Ok whole.bytes, subst (λ l. AddsFurther l x.body (Ok whole.bytes)) begun adds, is)

module _ (agent : Agent) (id : ℕ) (to : SocketAddr) (priority : ℕ) (nominate : Bool)
    (body : List ℕ) where
  abbrev pub asked : Asked
  asked = record {
    agent = agent;
    id = id;
    to = to;
    priority = priority;
    nominate = nominate;
    body = body;
  }

  pub unadded : (page : Written) (refusal : Refusal) → Begins agent.peer (Ok page)
      → Begun asked agent.peer page.bytes
      → (refusal ≡ OutOfMemory) ⊎ AddsFurther page.bytes body (Err refusal)
      → Extends agent id to priority nominate body (Err refusal)
  unadded page refusal there begun why = unadded_to asked agent.peer page refusal there begun why

  pub unended : (page whole : Written) (why : StunWriteError) → Begins agent.peer (Ok page)
      → Begun asked agent.peer page.bytes → AddsFurther page.bytes body (Ok whole.bytes)
      → Unended agent.peer whole.bytes (Err why) why
      → Extends agent id to priority nominate body (Err (refusal_of_write true why))
  unended page whole why there begun adds refused =
      unended_to asked agent.peer page whole why there begun adds refused

  pub ended : (page whole : Written) (check : SentCheck) → Begins agent.peer (Ok page)
      → Begun asked agent.peer page.bytes → AddsFurther page.bytes body (Ok whole.bytes)
      → IfSome agent.peer (λ p. check ≡ sent_page agent p id to nominate whole.bytes)
      → Extends agent id to priority nominate body (Ok check)
  ended page whole check there begun adds is =
      ended_to asked agent.peer page whole check there begun adds is
