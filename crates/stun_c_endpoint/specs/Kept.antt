-- The value of a handle: a server, a table of users, an ICE agent or a client. An empty handle
-- fails with one error, and one of another kind with another.
use Rattle.std.specs.Prelude.{Option, Some, None, Result, Ok, Err}
use Rattle.stun_judging.specs.Realm.{RealmSeen}
use Rattle.stun_endpoint.specs.Responding.{Responding}
use Rattle.stun_endpoint.specs.Settings.{Settings}
use Rattle.stun_endpoint.specs.ShortTerm.{Keys}
use Rattle.stun_ice.specs.Agent.{Agent}
use Rattle.stun_numbers.specs.declared.refusal.Refusal.{Refusal}
use Rattle.stun_numbers.specs.declared.refusal.Refusal.TheVariants.{EmptyHandle, WrongHandle}
use Rattle.stun_c_endpoint.specs.declared.handle.endpoint.Kept.{Kept}
use Rattle.stun_c_endpoint.specs.declared.handle.endpoint.Kept.TheVariants.{Checker, Server, Users}
use Rattle.stun_c_endpoint.specs.declared.handle.endpoint.Kept.TheVariants.{Open, ShortTerm}
use Rattle.stun_c_endpoint.specs.declared.handle.endpoint.Kept.TheVariants.{Client, ShortTermUsers}

-- a call with the value of a handle, unless that is empty
abbrev pub at_handle : {V : Type 0} → Option Kept → (Kept → Result V Refusal) → Result V Refusal
at_handle None answer = Err EmptyHandle
at_handle (Some kept) answer = answer kept

-- ---- servers and tables of users

-- what judges a datagram: a server, with its users if it has credentials
pub data Judge : Type 0 where
  by_realm : Settings → RealmSeen → Judge
  by_users : Responding → Keys → Judge
  openly : Responding → Judge

abbrev pub with_realm : Settings → Kept → Result Judge Refusal
with_realm s (Users u) = Ok (by_realm s u)
with_realm s (Server t) = Err WrongHandle
with_realm s (Open t) = Err WrongHandle
with_realm s (ShortTerm t) = Err WrongHandle
with_realm s (ShortTermUsers t) = Err WrongHandle
with_realm s (Checker t) = Err WrongHandle
with_realm s (Client t) = Err WrongHandle

abbrev pub with_keys : Responding → Kept → Result Judge Refusal
with_keys s (ShortTermUsers u) = Ok (by_users s u)
with_keys s (Server t) = Err WrongHandle
with_keys s (Users t) = Err WrongHandle
with_keys s (Open t) = Err WrongHandle
with_keys s (ShortTerm t) = Err WrongHandle
with_keys s (Checker t) = Err WrongHandle
with_keys s (Client t) = Err WrongHandle

-- a server with credentials needs a table of its kind; the table of one without is ignored
abbrev pub judge_with : Option Kept → Kept → Result Judge Refusal
judge_with users (Server s) = at_handle users (λ u. with_realm s u)
judge_with users (ShortTerm s) = at_handle users (λ u. with_keys s u)
judge_with users (Open s) = Ok (openly s)
judge_with users (Users t) = Err WrongHandle
judge_with users (ShortTermUsers t) = Err WrongHandle
judge_with users (Checker t) = Err WrongHandle
judge_with users (Client t) = Err WrongHandle

-- what two handles judge by. That of the server is tested first
abbrev pub judge_of : Option Kept → Option Kept → Result Judge Refusal
judge_of server users = at_handle server (λ s. judge_with users s)

-- ---- ICE agents

abbrev pub agent_of : Kept → Result Agent Refusal
agent_of (Checker a) = Ok a
agent_of (Server s) = Err WrongHandle
agent_of (Users u) = Err WrongHandle
agent_of (Open s) = Err WrongHandle
agent_of (ShortTerm s) = Err WrongHandle
agent_of (ShortTermUsers u) = Err WrongHandle
agent_of (Client c) = Err WrongHandle

abbrev pub agent_in : Option Kept → Result Agent Refusal
agent_in handle = at_handle handle (λ kept. agent_of kept)
