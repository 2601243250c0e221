-- The cause beside an outcome is the one that the call for the cause alone names.
use Rattle.std.proofs.Common.{◌≡◌, ℕ, ℤ, List, Bool, true, false, Option, Some, None, Ok, Err}
use Rattle.std.proofs.Common.{sym, ap, subst}
use Rattle.std.specs.Prelude.{◌||◌, ◌==◌, cond, nat_lt, not}
use Rattle.std.specs.declared.net.socket_addr.SocketAddr.{SocketAddr}
use Rattle.stun_judging.specs.Realm.{RealmSeen}
use Rattle.stun_endpoint.specs.Causes.{cause_for}
use Rattle.stun_endpoint.specs.Settings.{Settings}
use Rattle.stun_endpoint.specs.declared.server.causes.Cause.{Cause}
use Rattle.stun_handles.specs.Addresses.{socket_address}
use Rattle.stun_handles.specs.Answers.{at_address}
use Rattle.stun_handles.specs.declared.address.Address.{Address}
use Rattle.stun_numbers.specs.declared.refusal.Refusal.TheVariants.{BadArgument}
use Rattle.stun_c_endpoint.specs.Causes.{IsCause, cause_at, cause_by, cause_number, caused_at}
use Rattle.stun_c_endpoint.specs.Causes.{long_term_and_users}
use Rattle.stun_c_endpoint.specs.Kept.{judge_of}
use Rattle.stun_c_endpoint.specs.Told.{LAST_SECOND, RECEIVED_SIZE}
use Rattle.stun_c_endpoint.specs.declared.handle.endpoint.Kept.{Kept}
use Rattle.stun_c_endpoint.specs.declared.handle.endpoint.Kept.TheVariants.{Checker, Client, Server}
use Rattle.stun_c_endpoint.specs.declared.handle.endpoint.Kept.TheVariants.{Open, ShortTerm, Users}
use Rattle.stun_c_endpoint.specs.declared.handle.endpoint.Kept.TheVariants.{ShortTermUsers}
use Rattle.stun_c_endpoint.specs.declared.received.Received.{Received}

module _ (from : Address) (seconds : ℕ) (bytes : List ℕ) where
  by_address : (s : Settings) (u : RealmSeen) (o : Option SocketAddr) (cause : Option Cause)
      → at_address o (λ from. Ok (cause_for s (Some u.registered) from seconds bytes)) ≡ Ok cause
      → cause_by s u o seconds bytes ≡ cause_number cause
  by_address s u None cause h = cc
  by_address s u (Some at) cause h =
      let same : cause_for s (Some u.registered) at seconds bytes ≡ cause = cc in
      ap cause_number same

  by_time : (s : Settings) (u : RealmSeen) (is_late : Bool) (cause : Option Cause)
      → cond is_late (Err BadArgument) (at_address (socket_address from)
      (λ from. Ok (cause_for s (Some u.registered) from seconds bytes))) ≡ Ok cause
      → cond is_late 0 (cause_by s u (socket_address from) seconds bytes) ≡ cause_number cause
  by_time s u true cause h = cc
  by_time s u false cause h = by_address s u (socket_address from) cause h

  one_cause : (server users : Option Kept) (r : Received) (cause : Option Cause)
      → r.size ≡ RECEIVED_SIZE
      → caused_at (long_term_and_users server users) from seconds bytes ≡ Ok cause
      → cause_at (judge_of server users) from seconds bytes r ≡ cause_number cause
  one_cause (Some (Server s)) (Some (Users u)) r cause size h =
      subst (λ n. cond (not (n == RECEIVED_SIZE) || nat_lt LAST_SECOND seconds) 0
      (cause_by s u (socket_address from) seconds bytes) ≡ cause_number cause) (sym size)
      (by_time s u (nat_lt LAST_SECOND seconds) cause h)
  one_cause None users r cause size h = cc
  one_cause (Some (Users t)) users r cause size h = cc
  one_cause (Some (Open t)) users r cause size h = cc
  one_cause (Some (ShortTerm t)) users r cause size h = cc
  one_cause (Some (ShortTermUsers t)) users r cause size h = cc
  one_cause (Some (Checker t)) users r cause size h = cc
  one_cause (Some (Client t)) users r cause size h = cc
  one_cause (Some (Server s)) None r cause size h = cc
  one_cause (Some (Server s)) (Some (Server t)) r cause size h = cc
  one_cause (Some (Server s)) (Some (Open t)) r cause size h = cc
  one_cause (Some (Server s)) (Some (ShortTerm t)) r cause size h = cc
  one_cause (Some (Server s)) (Some (ShortTermUsers t)) r cause size h = cc
  one_cause (Some (Server s)) (Some (Checker t)) r cause size h = cc
  one_cause (Some (Server s)) (Some (Client t)) r cause size h = cc

  pub both_name_one : (server users : Option Kept) (r : Received) (cause : Option Cause)
      (result : ℤ) (told : ℕ) → r.size ≡ RECEIVED_SIZE
      → caused_at (long_term_and_users server users) from seconds bytes ≡ Ok cause
      → IsCause (cause_at (judge_of server users) from seconds bytes r) result told
      → IsCause (cause_number cause) result told
  both_name_one server users r cause result told size h is =
      subst (λ why. IsCause why result told) (one_cause server users r cause size h) is
