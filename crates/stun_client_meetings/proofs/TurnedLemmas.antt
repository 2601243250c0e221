-- A request that is sent by another message, and what is stored of it then.
use Rattle.std.proofs.Common.{◌≡◌, ◌∙◌, ℕ, false, List, Option, Some, None, ap}
use Rattle.std.specs.BTreeMap.{is_at}
use Rattle.std.specs.Option.{option_and_then, option_map, option_map_or}
use Rattle.std.specs.Ordering.{nat_cmp}
use Rattle.stun_agent.specs.Statistics.{response_received}
use Rattle.stun_agent.specs.Tables.{TableSeen, after_sending, after_answer, counted, datum_at}
use Rattle.stun_agent.specs.Tables.{request_in, with_other_datum, without_request}
use Rattle.stun_agent.specs.Timing.{Settings}
use Rattle.stun_agent.specs.Transactions.{Transaction, at as transaction_at, round_trip}
use Rattle.stun_agent.proofs.Ascending.{lookup-insert_same, lookup-remove_other}
use Rattle.stun_client_requests.specs.Numbers.{after_end as after_end_of, after_mark, after_rename}
use Rattle.stun_client_requests.specs.Numbers.{id_at, id_in, known_at}
use Rattle.stun_client_requests.specs.Requests.{Answering, RequestsSeen, after_again}
use Rattle.stun_client_requests.specs.Requests.{after_answering, after_replacing, bytes_at}
use Rattle.stun_client_requests.specs.Requests.{datum_of}
use Rattle.stun_client_requests.specs.declared.numbers.Known.TheVariants.{Ended, Outstanding}
use Rattle.stun_client_requests.specs.declared.requests.Request.{Request}
use Rattle.stun_client_requests.proofs.RequestLemmas.{set_same}

module _ {D E : Type 0} (r : RequestsSeen D E) (number former id : ℕ) (bytes : List ℕ)
    (plan : Settings) (first last : D) (response : Answering) (now : ℕ)
    (named : id_at number r.numbers ≡ Some former) (off : is_at (nat_cmp id) former ≡ false) where
  abbrev sent : TableSeen (Request D)
  sent = after_sending id bytes plan (record { number = number; datum = first }) now r.table

  abbrev mid : RequestsSeen D E
  mid = record r {
    table = after_answer former response.count response.moment sent;
    numbers = after_rename number id (after_mark number r.numbers);
  }

  abbrev next : RequestsSeen D E
  next = record mid {
    table = with_other_datum id (record { number = number; datum = last }) mid.table;
  }

  again_is : after_again number response id bytes plan first now r ≡ mid
  again_is =
      ap (λ (o : Option ℕ). option_map_or (λ k. record r {
        table = after_answer k response.count response.moment sent;
        numbers = after_rename number id (after_mark number r.numbers);
      }) o r) named

  mid_named : id_at number mid.numbers ≡ Some id
  mid_named =
      ap (λ o. option_and_then id_in o)
      (lookup-insert_same number (Outstanding id) r.numbers.known)

  next_is : after_replacing number last (after_again number response id bytes plan first now r)
      ≡ next
  next_is =
      ap (λ (x : RequestsSeen D E). after_replacing number last x) again_is
      ∙ ap (λ (o : Option ℕ). option_map_or (λ k. record mid {
        table = with_other_datum k (record { number = number; datum = last }) mid.table;
      }) o mid) mid_named

  timer : (t : Option Transaction)
      → transaction_at id (option_map_or (λ x. counted
      (response_received response.count (round_trip response.moment x)) (without_request former
      sent)) t
      sent).requests ≡ Some (request_in r.table bytes plan now)
  timer None = lookup-insert_same id (request_in r.table bytes plan now) r.table.requests
  timer (Some x) =
      lookup-remove_other id former sent.requests off
      ∙ lookup-insert_same id (request_in r.table bytes plan now) r.table.requests

  datum : (t : Option Transaction)
      → datum_at id (option_map_or (λ x. counted
      (response_received response.count (round_trip response.moment x)) (without_request former
      sent)) t
      sent).attached ≡ Some (record { number = number; datum = first })
  datum None =
      lookup-insert_same id (record { number = number; datum = first }) r.table.attached
  datum (Some x) =
      lookup-remove_other id former sent.attached off
      ∙ lookup-insert_same id (record { number = number; datum = first }) r.table.attached

  pub stored_then :
      datum_of number
      (after_replacing number last (after_again number response id bytes plan first now r))
      ≡ Some last
  stored_then =
      ap (λ (x : RequestsSeen D E). datum_of number x) next_is
      ∙ ap (λ (o : Option ℕ). option_map (λ (q : Request D). q.datum)
      (option_and_then (λ k. datum_at k next.table.attached) o)) mid_named
      ∙ ap (λ (o : Option (Request D)). option_map (λ (q : Request D). q.datum) o)
      (set_same id (record { number = number; datum = first })
      (record { number = number; datum = last }) mid.table.attached
      (datum (transaction_at former sent.requests)))

  pub bytes_then :
      bytes_at number
      (after_replacing number last (after_again number response id bytes plan first now r))
      ≡ Some bytes
  bytes_then =
      ap (λ (x : RequestsSeen D E). bytes_at number x) next_is
      ∙ ap (λ (o : Option ℕ). option_and_then
      (λ k. option_map (λ (t : Transaction). t.bytes) (transaction_at k next.table.requests)) o)
      mid_named
      ∙ ap (λ (o : Option Transaction). option_map (λ (t : Transaction). t.bytes) o)
      (timer (transaction_at former sent.requests))

-- a response ends a request
pub ended_then : {D E : Type 0} (r : RequestsSeen D E) (number id count : ℕ) (moment : Option ℕ)
    (end : E) → id_at number r.numbers ≡ Some id
    → known_at number (after_answering number count moment end r).numbers.known ≡ Some (Ended end)
ended_then {D} {E} r number id count moment end named =
    ap (λ (o : Option ℕ). known_at number (option_map_or (λ k. record r {
      table = after_answer k count moment r.table;
      numbers = after_end_of number end r.numbers;
    }) o r).numbers.known) named
    ∙ lookup-insert_same number (Ended end) r.numbers.known
