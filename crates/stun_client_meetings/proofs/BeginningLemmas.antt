-- The first request of a new client is started, and can be sent again.
use Rattle.std.proofs.Common.{◌≡◌, ◌∙◌, ◌≤◌, [], ℕ, Bool, true, false, Option, Some, None, Ok, ap}
use Rattle.std.proofs.Common.{arith}
use Rattle.std.proofs.Common.{cond, refl, subst, sym}
use Rattle.std.specs.BTreeMap.{is_at}
use Rattle.std.specs.Net.Socket.{socket_ip, socket_port}
use Rattle.std.specs.Option.{is_some, option_map}
use Rattle.std.specs.Ordering.{nat_cmp}
use Rattle.std.specs.Prelude.{◌&&◌, ◌==◌, ◌||◌}
use Rattle.std.specs.Str.{bytes_eq}
use Rattle.std.specs.declared.net.socket_addr.SocketAddr.{SocketAddr}
use Rattle.std.proofs.lemmas.Bool.{eq-eqb}
use Rattle.std.proofs.lemmas.Slice.Eq.{bytes_eq-Decides}
use Rattle.stun_base.specs.Moments.{moment_after}
use Rattle.stun_base.specs.declared.keys.algorithm.IntegrityAlgorithm.{IntegrityAlgorithm}
use Rattle.stun_agent.specs.Tables.{request_in}
use Rattle.stun_agent.specs.Transactions.{Transaction}
use Rattle.stun_agent.proofs.Ascending.{lookup-insert_same}
use Rattle.stun_extra.specs.CanonicalAddress.{address_octets, is_same_address}
use Rattle.stun_client.specs.Challenges.{Answered}
use Rattle.stun_client.specs.Ids.{id_of}
use Rattle.stun_client.specs.Judging.{Identity}
use Rattle.stun_client.specs.Standing.{is_ignored}
use Rattle.stun_client_endpoint.specs.Bodies.{Body}
use Rattle.stun_client_endpoint.specs.Settings.{plan_of}
use Rattle.stun_client_endpoint.specs.Written.{request_bytes}
use Rattle.stun_client_requests.specs.Requests.{bytes_at, datum_of}
use Rattle.stun_client_requests.specs.declared.requests.Request.{Request}
use Rattle.stun_client_requests.proofs.NumberLemmas.{apart}
use Rattle.stun_client_calls.specs.Clients.{Client, chosen, first_asked, first_message}
use Rattle.stun_client_calls.specs.Clients.{refusal_of_number}
use Rattle.stun_client_calls.specs.Clients.{refusal_of_page, refusal_to_start, started, started_at}
use Rattle.stun_client_calls.specs.Clients.{started_by, started_with}
use Rattle.stun_client_calls.specs.Ids.{free_number, is_taken, number_in}
use Rattle.stun_client_calls.specs.Messages.{AskedSeen}
use Rattle.stun_client_calls.specs.NewClients.{NewClient, made_of}
use Rattle.stun_client_calls.specs.Options.{Options, challenge_by, plan_by}
use Rattle.stun_client_calls.proofs.IdLemmas.{free_at}
use Rattle.stun_client_runs.specs.Kept.{IsClient}
use Rattle.stun_endpoint.specs.Settings.{Settings}
use Rattle.stun_judging.specs.Registered.{Registered}
use Rattle.stun_requests.specs.Fitting.{IsWritten}
use Rattle.stun_client_meetings.specs.Beginning.{CanBegin, side_of}
use Rattle.stun_client_meetings.specs.Meeting.{CanGoOn, IsClientOf, IsMeetable, IsSignedFor}
use Rattle.stun_client_meetings.proofs.OptionLemmas.{none_by, signs_by}

-- an address is the same as itself
and_true : (a b : Bool) → a ≡ true → b ≡ true → (a && b) ≡ true
and_true true true one other = refl
and_true true false one other = cc
and_true false b one other = cc

same_itself : (address : SocketAddr) → is_same_address address address ≡ true
same_itself address =
    and_true (socket_port address == socket_port address)
    (bytes_eq (address_octets (socket_ip address)) (address_octets (socket_ip address)))
    (eq-eqb (socket_port address) (socket_port address) refl)
    ((bytes_eq-Decides (address_octets (socket_ip address)) (address_octets (socket_ip address))).1
    refl)

pub is_client_of : (n : NewClient) → IsClient (made_of n) → IsClientOf (side_of n) (made_of n)
is_client_of n is = record {
  client = is;
  hears = same_itself n.server;
  identity = refl;
  form_is = refl;
  required_is = refl;
}

module _ (s : Settings) (users : Registered) (n : NewClient) (a : IntegrityAlgorithm)
    (can : CanBegin s users n a) (method : ℕ) (body : Body)
    (page : IsWritten n.form n.who n.preferences n.accepts_unsigned None method (id_of n.seed 0)
    body)
    (options : Option Options) (meetable : IsMeetable (side_of n) options) (start : ℕ) where
  abbrev new : Client
  new = made_of n

  abbrev begun : Client
  begun = started_by new 0 method body options page.bytes start

  abbrev pub first : AskedSeen
  first = first_asked new method body options start

  abbrev first_request : Request AskedSeen
  first_request = record { number = 0; datum = first }

  abbrev timer : Transaction
  timer = request_in new.requests.table page.bytes (plan_by options n.plan) start

  first_left : chosen new ≡ Some 0
  first_left = free_at n.seed [] [] 0 (omega arith)

  first_page : first_message new method 0 body options ≡ Ok page.bytes
  first_page =
      ap (λ (i : Identity).
      request_bytes n.form i (challenge_by options None) method (id_of n.seed 0) body)
      (signs_by (side_of n) options new.identity meetable)
      ∙ ap (λ (o : Option Answered).
      request_bytes n.form new.identity o method (id_of n.seed 0) body) (none_by options)
      ∙ page.is

  pub starts_so : refusal_to_start (made_of n) method body options ≡ None
  starts_so =
      ap (λ o. refusal_of_number new method body options o) first_left
      ∙ ap (λ p. refusal_of_page new 0 p) first_page

  pub started_so : started method body options start (made_of n) ≡ begun
  started_so =
      ap (λ o. started_at new method body options start o) first_left
      ∙ ap (λ p. started_with new 0 method body options start p) first_page

  abbrev pub first_signed :
      IsSignedFor 0 None (started method body options start (made_of n)) page.bytes
  first_signed = record {
    asked = first;
    stored = ap (λ (x : Client). datum_of 0 x.requests) started_so
        ∙ ap (λ o. option_map (λ (q : Request AskedSeen). q.datum) o)
        (lookup-insert_same (id_of n.seed 0) first_request []);
    signed = none_by options;
    sent = ap (λ (x : Client). bytes_at 0 x.requests) started_so
        ∙ ap (λ o. option_map (λ (t : Transaction). t.bytes) o)
        (lookup-insert_same (id_of n.seed 0) timer []);
  }

  -- the second ID is left
  second_left : chosen begun ≡ Some 1
  second_left =
      free_at n.seed begun.requests.table.attached [] 1 (omega arith)
      ∙ ap (λ b. cond b (free_number n.seed begun.requests.table.attached [] 2) (Some 1)) untaken
    where
      other : is_at (nat_cmp (id_of n.seed 1)) (id_of n.seed 0) ≡ false
      other = apart (id_of n.seed 1) (id_of n.seed 0) can.another

      untaken : is_taken n.seed begun.requests.table.attached [] 1 ≡ false
      untaken =
          ap (λ b. is_some (option_map (λ (q : Request AskedSeen). q.number)
          (cond b (Some first_request) None)) || is_some (number_in (id_of n.seed 1) [])) other

  pub goes_on : (d : Answered) (now : ℕ)
      → now ≤ moment_after start (plan_of (plan_by options n.plan))
      → CanGoOn (started method body options start (made_of n)) first d now
  goes_on d now in_time =
      subst (λ (x : Client). CanGoOn x first d now) (sym started_so) (record {
        instant = omega (arith, in_time);
        in_time = in_time;
        often = can.turns;
        left = ap is_some second_left;
        apart = tt;
      })

  -- nothing is confirmed yet
  pub ignores_none : (d : Answered)
      → is_ignored (started method body options start (made_of n)).standing d ≡ false
  ignores_none d = ap (λ (x : Client). is_ignored x.standing d) started_so
