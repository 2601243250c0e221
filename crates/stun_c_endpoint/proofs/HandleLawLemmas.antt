-- What a handle has after a call, and which handles a call refuses.
use Rattle.std.proofs.Common.{◌≡◌, ◌∙◌, ℕ, ℤ, pos, List, Bool, true≢false}
use Rattle.std.proofs.Common.{Option, Some, None, MatchOption, refl, sym, ap, inl, inr, subst}
use Rattle.std.proofs.Common.{Ok, Err}
use Rattle.std.specs.Prelude.{◌≢◌, Result}
use Rattle.std.specs.declared.net.socket_addr.SocketAddr.{SocketAddr}
use Rattle.stun_judging.specs.Realm.{RealmSeen}
use Rattle.stun_client_calls.specs.Clients.{Client as ClientSeen}
use Rattle.stun_endpoint.specs.Responding.{Responding}
use Rattle.stun_endpoint.specs.Settings.{Settings}
use Rattle.stun_endpoint.specs.ShortTerm.{Keys}
use Rattle.stun_handles.specs.Addresses.{socket_address}
use Rattle.stun_handles.specs.Numbers.{OrOutOfMemory}
use Rattle.stun_ice.specs.Agent.{Agent}
use Rattle.stun_numbers.specs.Refusals.{refusal_number}
use Rattle.stun_numbers.specs.declared.refusal.Refusal.{Refusal}
use Rattle.stun_numbers.specs.declared.refusal.Refusal.TheVariants.{FullHandle, WrongHandle}
use Rattle.stun_c_endpoint.specs.Agents.{AgentGiven, MakesAgent, MakesOffering, SetsPeer}
use Rattle.stun_c_endpoint.specs.Agents.{SetsRole, SetsTieBreaker, SideGiven, agent_given}
use Rattle.stun_c_endpoint.specs.Agents.{agent_refusal, knowing_agent, offering_agent}
use Rattle.stun_c_endpoint.specs.Agents.{side_given_refusal}
use Rattle.stun_c_endpoint.specs.Clients.{client_in, client_of}
use Rattle.stun_c_endpoint.specs.ClientsGiven.{ClientGiven, MakesAt, MakesClient, client_given}
use Rattle.stun_c_endpoint.specs.ClientsGiven.{client_refusal}
use Rattle.stun_c_endpoint.specs.Found.{judge_of_found}
use Rattle.stun_c_endpoint.specs.Given.{Fills, LeavesFull, Makes}
use Rattle.stun_c_endpoint.specs.HandleLaws.{IsErrorNumber, Takes}
use Rattle.stun_c_endpoint.specs.Judged.{LeavesSeen, Seen, SeesAs, given_number}
use Rattle.stun_c_endpoint.specs.Kept.{agent_in, agent_of}
use Rattle.stun_c_endpoint.specs.Lookups.{long_term_in, long_term_of}
use Rattle.stun_c_endpoint.specs.Users.{LeavesTable, LeavesTableOr, adding, adding_keys, removing}
use Rattle.stun_c_endpoint.specs.Users.{table_for}
use Rattle.stun_c_endpoint.specs.declared.handle.endpoint.Kept.{Kept}
use Rattle.stun_c_endpoint.specs.declared.handle.endpoint.Kept.TheVariants as kind
use Rattle.stun_c_endpoint.specs.declared.ice.told.IceReceived.{IceReceived}
use Rattle.stun_c_endpoint.proofs.NumberLemmas.{no_refusal, not_below}

-- ---- kinds

other_agent : (k : Kept) → ((a : Agent) → k ≢ kind.Checker a) → agent_of k ≡ Err WrongHandle
other_agent (kind.Checker a) other = absurd (other a refl)
other_agent (kind.Server s) other = refl
other_agent (kind.Users s) other = refl
other_agent (kind.Open s) other = refl
other_agent (kind.ShortTerm s) other = refl
other_agent (kind.ShortTermUsers s) other = refl
other_agent (kind.Client s) other = refl

pub takes_agent : (handle : Option Kept) → Takes kind.Checker handle (agent_in handle)
takes_agent handle = record {
  own = λ a is. ap agent_in is;
  empty = λ is. ap agent_in is;
  other = λ k is other. ap agent_in is ∙ other_agent k other;
}

other_client : (k : Kept) → ((c : ClientSeen) → k ≢ kind.Client c) → client_of k ≡ Err WrongHandle
other_client (kind.Client c) other = absurd (other c refl)
other_client (kind.Server s) other = refl
other_client (kind.Users s) other = refl
other_client (kind.Open s) other = refl
other_client (kind.ShortTerm s) other = refl
other_client (kind.ShortTermUsers s) other = refl
other_client (kind.Checker s) other = refl

pub takes_client : (handle : Option Kept) → Takes kind.Client handle (client_in handle)
takes_client handle = record {
  own = λ a is. ap client_in is;
  empty = λ is. ap client_in is;
  other = λ k is other. ap client_in is ∙ other_client k other;
}

other_server : (k : Kept) → ((s : Settings) → k ≢ kind.Server s) → long_term_of k ≡ Err WrongHandle
other_server (kind.Server s) other = absurd (other s refl)
other_server (kind.Client s) other = refl
other_server (kind.Users s) other = refl
other_server (kind.Open s) other = refl
other_server (kind.ShortTerm s) other = refl
other_server (kind.ShortTermUsers s) other = refl
other_server (kind.Checker s) other = refl

pub takes_server : (handle : Option Kept) → Takes kind.Server handle (long_term_in handle)
takes_server handle = record {
  own = λ a is. ap long_term_in is;
  empty = λ is. ap long_term_in is;
  other = λ k is other. ap long_term_in is ∙ other_server k other;
}

pub not_added : (name password : List ℕ) (k : Kept) → ((u : RealmSeen) → k ≢ kind.Users u)
    → ((u : Keys) → k ≢ kind.ShortTermUsers u) → adding name password k ≡ Err WrongHandle
not_added name password (kind.Users u) other short = absurd (other u refl)
not_added name password (kind.ShortTermUsers u) other short = absurd (short u refl)
not_added name password (kind.Server u) other short = refl
not_added name password (kind.Open u) other short = refl
not_added name password (kind.ShortTerm u) other short = refl
not_added name password (kind.Checker u) other short = refl
not_added name password (kind.Client u) other short = refl

pub not_removed : (name : List ℕ) (k : Kept) → ((u : RealmSeen) → k ≢ kind.Users u)
    → ((u : Keys) → k ≢ kind.ShortTermUsers u) → removing name k ≡ Err WrongHandle
not_removed name (kind.Users u) other short = absurd (other u refl)
not_removed name (kind.ShortTermUsers u) other short = absurd (short u refl)
not_removed name (kind.Server u) other short = refl
not_removed name (kind.Open u) other short = refl
not_removed name (kind.ShortTerm u) other short = refl
not_removed name (kind.Checker u) other short = refl
not_removed name (kind.Client u) other short = refl

pub not_stored : (name sha1 sha256 : List ℕ) (k : Kept) → ((u : RealmSeen) → k ≢ kind.Users u)
    → adding_keys name sha1 sha256 k ≡ Err WrongHandle
not_stored name sha1 sha256 (kind.Users u) other = absurd (other u refl)
not_stored name sha1 sha256 (kind.ShortTermUsers u) other = refl
not_stored name sha1 sha256 (kind.Server u) other = refl
not_stored name sha1 sha256 (kind.Open u) other = refl
not_stored name sha1 sha256 (kind.ShortTerm u) other = refl
not_stored name sha1 sha256 (kind.Checker u) other = refl
not_stored name sha1 sha256 (kind.Client u) other = refl

pub no_table : (k : Kept) → ((s : Settings) → k ≢ kind.Server s)
    → ((s : Responding) → k ≢ kind.ShortTerm s) → table_for k ≡ Err WrongHandle
no_table (kind.Server s) other short = absurd (other s refl)
no_table (kind.ShortTerm s) other short = absurd (short s refl)
no_table (kind.Users u) other short = refl
no_table (kind.ShortTermUsers u) other short = refl
no_table (kind.Open u) other short = refl
no_table (kind.Checker u) other short = refl
no_table (kind.Client u) other short = refl

pub not_found : (name password sha1 sha256 : List ℕ) (has_password : Bool) (k : Kept)
    → ((s : Settings) → k ≢ kind.Server s)
    → judge_of_found name password has_password sha1 sha256 (Some k) ≡ Err WrongHandle
not_found name password sha1 sha256 has (kind.Server s) other = absurd (other s refl)
not_found name password sha1 sha256 has (kind.ShortTerm s) other = refl
not_found name password sha1 sha256 has (kind.Users u) other = refl
not_found name password sha1 sha256 has (kind.ShortTermUsers u) other = refl
not_found name password sha1 sha256 has (kind.Open u) other = refl
not_found name password sha1 sha256 has (kind.Checker u) other = refl
not_found name password sha1 sha256 has (kind.Client u) other = refl

-- ---- errors

-- no number of success is one
pub no_error : {A : Type 0} (n : ℕ) → IsErrorNumber (pos n) → A
no_error n e = absurd (true≢false (sym e ∙ not_below n))

pub no_error_is : {A : Type 0} (result : ℤ) (n : ℕ) → result ≡ pos n → IsErrorNumber result → A
no_error_is result n is e = no_error n (subst IsErrorNumber is e)

pub filled : (before now : Option Kept) → LeavesFull before now (pos 0) → before ≡ None
filled None now full = refl
filled (Some k) now full = no_refusal 0 FullHandle full.0

fills_left : (made : ℤ → Option Kept → Type 0) (result : ℤ) (before now : Option Kept)
    → (made result now → now ≡ None) → Fills before now result made → now ≡ before
fills_left made result None now left fills = left fills.made
fills_left made result (Some k) now left fills = fills.full.1

or_left : (result : ℤ) (before now left : Option Kept)
    → OrOutOfMemory result before now (pos 0) left → IsErrorNumber result → now ≡ before
or_left result before now left (inl is) e = no_error_is result 0 is.0 e
or_left result before now left (inr failed) e = failed.1

-- what is made is not made after an error
unmade : (why : Option Refusal) (k : Kept) (result : ℤ) (before now : Option Kept)
    → MatchOption why (OrOutOfMemory result before now (pos 0) (Some k))
    (λ refusal. (result ≡ refusal_number refusal) × (now ≡ before))
    → IsErrorNumber result → now ≡ before
unmade None k result before now call e = or_left result before now (Some k) call e
unmade (Some why) k result before now call e = call.1

pub agent_unmade : (g : AgentGiven) (result : ℤ) (before now : Option Kept)
    → Fills before now result (MakesAgent g) → IsErrorNumber result → now ≡ before
agent_unmade g result before now fills e =
    fills_left (MakesAgent g) result before now
    (λ call. unmade (agent_refusal g) (kind.Checker (agent_given g)) result None now call e) fills

pub offering_unmade : (s : SideGiven) (tie : ℕ) (controls : Bool) (result : ℤ)
    (before now : Option Kept) → Fills before now result (MakesOffering s tie controls)
    → IsErrorNumber result → now ≡ before
offering_unmade s tie controls result before now fills e =
    fills_left (MakesOffering s tie controls) result before now
    (λ call. unmade (side_given_refusal s) (kind.Checker (offering_agent s tie controls)) result
    None now call e) fills

pub unmade_by : (why : Option Refusal) (k : Kept) (result : ℤ) (before now : Option Kept)
    → Fills before now result (Makes why k) → IsErrorNumber result → now ≡ before
unmade_by why k result before now fills e =
    fills_left (Makes why k) result before now (λ call. unmade why k result None now call e) fills

client_left : (o : Option SocketAddr) (g : ClientGiven) (result : ℤ) (now : Option Kept)
    → MakesAt o g result now → IsErrorNumber result → now ≡ None
client_left None g result now call e = call.1
client_left (Some server) g result now call e =
    unmade (client_refusal g) (kind.Client (client_given g server)) result None now call e

pub client_unmade : (g : ClientGiven) (result : ℤ) (before now : Option Kept)
    → Fills before now result (MakesClient g) → IsErrorNumber result → now ≡ before
client_unmade g result before now fills e =
    fills_left (MakesClient g) result before now
    (λ call. client_left (socket_address g.server) g result now call e) fills

pub peer_left : (a : Result Agent Refusal) (s : SideGiven) (result : ℤ) (before now : Option Kept)
    → SetsPeer a s result before now → IsErrorNumber result → now ≡ before
peer_left (Ok a) s result before now call e =
    unmade (side_given_refusal s) (kind.Checker (knowing_agent a s)) result before now call e
peer_left (Err why) s result before now call e = call.1

pub tie_left : (a : Result Agent Refusal) (tie : ℕ) (result : ℤ) (before now : Option Kept)
    → SetsTieBreaker a tie result before now → IsErrorNumber result → now ≡ before
tie_left (Ok a) tie result before now call e = no_error_is result 0 call.0 e
tie_left (Err why) tie result before now call e = call.1

pub role_left : (a : Result Agent Refusal) (controls : Bool) (result : ℤ) (before now : Option Kept)
    → SetsRole a controls result before now → IsErrorNumber result → now ≡ before
role_left (Ok a) controls result before now call e = no_error_is result 0 call.0 e
role_left (Err why) controls result before now call e = call.1

seen_left : (missing : Option ℕ) (s : Seen) (result : ℤ) (out after : List ℕ) (r told : IceReceived)
    (before now : Option Kept) → LeavesSeen missing s result out after r told before now
    → IsErrorNumber result → now ≡ before
seen_left None s result out after r told before now call e =
    no_error_is result (given_number s.given) call.0 e
seen_left (Some needed) s result out after r told before now call e = call.3

pub datagram_left : (seen : Result Seen Refusal) (result : ℤ) (out after : List ℕ)
    (r told : IceReceived) (before now : Option Kept)
    → SeesAs seen result out after r told before now → IsErrorNumber result → now ≡ before
datagram_left (Ok s) result out after r told before now (inl call) e =
    seen_left _ s result out after r told before now call e
datagram_left (Ok s) result out after r told before now (inr failed) e = failed.3
datagram_left (Err why) result out after r told before now call e = call.3

pub table_left : (left : Result Kept Refusal) (result : ℤ) (before now : Option Kept)
    → LeavesTable left result before now → IsErrorNumber result → now ≡ before
table_left (Ok left) result before now call e = no_error_is result 0 call.0 e
table_left (Err why) result before now call e = call.1

pub added_left : (left : Result Kept Refusal) (result : ℤ) (before now : Option Kept)
    → LeavesTableOr left result before now → IsErrorNumber result → now ≡ before
added_left (Ok left) result before now call e = or_left result before now (Some left) call e
added_left (Err why) result before now call e = call.1
