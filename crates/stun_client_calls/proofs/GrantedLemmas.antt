-- What a client makes of a response with all memory granted: what is expected, and nothing else.
use Rattle.std.proofs.Common.{◌≡◌, ◌∙◌, ℕ, Bool, true, false, List, Option, Some, None, Result}
use Rattle.std.proofs.Common.{Err, Ok, ap, cond, inl, inr, refl, subst, sym, true≢false}
use Rattle.std.specs.Option.{is_some, option_and_then, option_map}
use Rattle.std.specs.Prelude.{◌⊎◌, IsErr, IsSome, MatchOption, ⊤, if◌then◌else◌}
use Rattle.std.specs.declared.net.socket_addr.SocketAddr.{SocketAddr}
use Rattle.stun_base.specs.MessageType.{class_in}
use Rattle.stun_base.specs.declared.wire.error.StunParseError.{StunParseError}
use Rattle.stun_base.specs.declared.wire.error.StunWriteError.{StunWriteError}
use Rattle.stun_base.specs.declared.wire.error.StunWriteError.TheVariants.{OutOfMemory}
use Rattle.stun_base.specs.declared.wire.message_type.MessageClass.{MessageClass}
use Rattle.stun_types.specs.Message.{refusal}
use Rattle.stun_agent.specs.Tables.{datum_at}
use Rattle.stun_agent.specs.Transactions.{at as transaction_at}
use Rattle.stun_judging.specs.Additions.{UnlessMemory as UnlessRefused}
use Rattle.stun_client.specs.Challenges.{Answered}
use Rattle.stun_client.specs.Ids.{id_of}
use Rattle.stun_client_endpoint.specs.Bodies.{Body}
use Rattle.stun_client_endpoint.specs.Written.{Page?}
use Rattle.stun_client_endpoint.specs.declared.ended.DropReason.{DropReason}
use Rattle.stun_client_endpoint.specs.declared.ended.DropReason.TheVariants as Reasons
use Rattle.stun_client_endpoint.specs.declared.told.Received.TheVariants.{NotOurs}
use Rattle.stun_client_endpoint.specs.declared.told.RequestError.{RequestError}
use Rattle.stun_client_endpoint.specs.declared.told.RequestError.TheVariants.{NoId}
use Rattle.stun_client_requests.specs.Numbers.{id_at}
use Rattle.stun_client_requests.specs.Requests.{RequestsSeen, again_refusal, again_refusal_of}
use Rattle.stun_client_requests.specs.Requests.{datum_of, number_at, start_refusal}
use Rattle.stun_client_requests.specs.declared.requests.AgainRefusal.{AgainRefusal}
use Rattle.stun_client_requests.specs.declared.requests.AgainRefusal.TheVariants as Again
use Rattle.stun_client_requests.specs.declared.requests.Request.{Request}
use Rattle.stun_client_requests.specs.declared.requests.StartRefusal.{StartRefusal}
use Rattle.stun_client_calls.specs.Clients.{Client, chosen, error_of, first_message, refusal_of_number}
use Rattle.stun_client_calls.specs.Clients.{refusal_of_page, refusal_to_start}
use Rattle.stun_client_calls.specs.Deciding.{DecisionSeen, Place, drops, refuses}
use Rattle.stun_client_calls.specs.Messages.{AskedSeen}
use Rattle.stun_client_calls.specs.Options.{Options}
use Rattle.stun_client_calls.specs.Receiving.{Answer, Memory, Met, Spot, answered_in, by_class}
use Rattle.stun_client_calls.specs.Receiving.{by_decision, by_met, decision_for, dropping}
use Rattle.stun_client_calls.specs.Receiving.{dropping_refusal, heard_in}
use Rattle.stun_client_calls.specs.Receiving.{received, spot_of, turned_at, turned_by, unwritten}
use Rattle.stun_client_calls.specs.Writing.{message_bytes}
use Rattle.stun_client_calls.specs.declared.turning.Why.{Why}
use Rattle.stun_client_calls.proofs.ReceivingLemmas.{met_is_stored}

-- ---- no refusal of the requests

unless_none : (o : Option ℕ) → o ≡ None → IsSome o → ⊥
unless_none None is some = cc
unless_none (Some k) is some = cc

-- an outstanding request is sent by another message, if no request has its ID
pub not_refused : {D E : Type 0} (T : Type 0) (r : RequestsSeen D E) (number id : ℕ) (a : D)
    (said_no : AgainRefusal)
    → MatchOption (again_refusal r number id) (said_no ≡ Again.OutOfMemory)
    (λ why. ◌≡◌ {A = Result T AgainRefusal} (Err said_no) (Err why))
    → (again_refusal r number id ≡ None → false ≡ true)
    → (◌≡◌ {A = Result T AgainRefusal} (Err said_no) (Err Again.IdTaken)
    → IsSome (number_at id r.table.attached))
    → datum_of number r ≡ Some a → number_at id r.table.attached ≡ None → ⊥
not_refused {D = D} {E = E} T r number id a said_no said granted taken there free =
    by_id (id_at number r.numbers) said granted there
  where
    by_taken : (b : Bool)
        → MatchOption (cond b (Some Again.IdTaken) None) (said_no ≡ Again.OutOfMemory)
        (λ why. ◌≡◌ {A = Result T AgainRefusal} (Err said_no) (Err why))
        → (◌≡◌ {A = Option AgainRefusal} (cond b (Some Again.IdTaken) None) None → false ≡ true) → ⊥
    by_taken true said granted =
        unless_none (number_at id r.table.attached) free (taken said)
    by_taken false said granted = absurd (true≢false (sym (granted refl)))

    by_id : (o : Option ℕ)
        → MatchOption (again_refusal_of r id o) (said_no ≡ Again.OutOfMemory)
        (λ why. ◌≡◌ {A = Result T AgainRefusal} (Err said_no) (Err why))
        → (again_refusal_of r id o ≡ None → false ≡ true)
        → option_map (λ (q : Request D). q.datum)
        (option_and_then (λ k. datum_at k r.table.attached) o) ≡ Some a
        → ⊥
    by_id None said granted there = cc
    by_id (Some former) said granted there =
        by_taken (is_some (transaction_at id r.table.requests)) said granted

-- so it is by a client
pub goes_out : (T : Type 0) (c e : Client) (bytes : List ℕ) (m : Met) (number : ℕ) (s t : Spot)
    (said_no : AgainRefusal) → answered_in bytes c ≡ Some m → number ≡ m.number → e ≡ c → t ≡ s
    → MatchOption (again_refusal e.requests number t.id) (said_no ≡ Again.OutOfMemory)
    (λ why. ◌≡◌ {A = Result T AgainRefusal} (Err said_no) (Err why))
    → (again_refusal e.requests number t.id ≡ None → false ≡ true)
    → (◌≡◌ {A = Result T AgainRefusal} (Err said_no) (Err Again.IdTaken)
    → IsSome (number_at t.id e.requests.table.attached))
    → number_at s.id c.requests.table.attached ≡ None → ⊥
goes_out T c e bytes m number s t said_no found same opens stands said granted taken free =
    not_refused T e.requests number t.id m.asked said_no said granted taken
    (ap (λ (x : Client). datum_of number x.requests) opens
    ∙ met_is_stored bytes c m number found same)
    (ap (λ (x : Client). number_at t.id x.requests.table.attached) opens
    ∙ ap (λ (y : Spot). number_at y.id c.requests.table.attached) stands ∙ free)

-- what fails is not granted
pub never : {P : Type 0} → false ≡ true → P
never is = absurd (true≢false (sym is))

-- what is stored is there
pub not_gone : {P : Type 0} (o : Option AskedSeen) (a : AskedSeen) → None ≡ o → o ≡ Some a → P
not_gone None a none some = cc
not_gone (Some b) a none some = cc

-- ---- another message

pub with_spot_as : (memory : Memory) (bytes : List ℕ) (c : Client) (now : ℕ) (m : Met) (why : Why)
    (d : Option Answered) (place : Option Place) (s : Spot) (page : Page?) (answer : Answer)
    → spot_of c m.asked place ≡ Some s
    → message_bytes c.form c.identity d s.id m.asked ≡ page
    → answer ≡ turned_by memory c now bytes m why d s page
    → answer ≡ turned_at memory c now bytes m why d (spot_of c m.asked place)
with_spot_as memory bytes c now m why d place s page answer stands written is =
    is
    ∙ ap (λ (p : Page?). turned_by memory c now bytes m why d s p) (sym written)
    ∙ sym (ap (λ (o : Option Spot). turned_at memory c now bytes m why d o) stands)

pub without_spot_as : (memory : Memory) (bytes : List ℕ) (c : Client) (now : ℕ) (m : Met)
    (number : ℕ) (why : Why) (d : Option Answered) (place : Option Place) (answer : Answer)
    → number ≡ m.number → spot_of c m.asked place ≡ None
    → answer ≡ dropping number Reasons.OutOfMemory bytes c
    → answer ≡ turned_at memory c now bytes m why d (spot_of c m.asked place)
without_spot_as memory bytes c now m number why d place answer same none is =
    is
    ∙ ap (λ (n : ℕ). dropping n Reasons.OutOfMemory bytes c) same
    ∙ sym (ap (λ (o : Option Spot). turned_at memory c now bytes m why d o) none)

wants : (V : Type 0) (error : StunWriteError) → error ≡ OutOfMemory
    → UnlessRefused {V = V} (Err error) ⊤ ⊥ → ⊥
wants V error is granted =
    subst (λ (e : StunWriteError). UnlessRefused {V = V} (Err e) ⊤ ⊥) is granted

-- the bytes cannot be written, and that is not for lack of memory
pub not_written_as : (V : Type 0) (memory : Memory) (bytes : List ℕ) (c : Client) (now : ℕ) (m : Met)
    (number : ℕ) (why : Why) (d : Option Answered) (place : Option Place) (s t : Spot)
    (error : StunWriteError) (reason : DropReason) (answer : Answer)
    → number ≡ m.number → spot_of c m.asked place ≡ Some s → t ≡ s
    → UnlessRefused {V = V} (Err error) ⊤ ⊥
    → (error ≡ OutOfMemory) ⊎ (message_bytes c.form c.identity d t.id m.asked ≡ Err error)
    → (error ≡ OutOfMemory) ⊎ (reason ≡ unwritten why) → answer ≡ dropping number reason bytes c
    → answer ≡ turned_at memory c now bytes m why d (spot_of c m.asked place)
not_written_as V memory bytes c now m number why d place s t error reason answer same stands opens
    granted refused other is =
    by refused other
  where
    by : (error ≡ OutOfMemory) ⊎ (message_bytes c.form c.identity d t.id m.asked ≡ Err error)
        → (error ≡ OutOfMemory) ⊎ (reason ≡ unwritten why)
        → answer ≡ turned_at memory c now bytes m why d (spot_of c m.asked place)
    by (inl fails) o = absurd (wants V error fails granted)
    by (inr page) (inl fails) = absurd (wants V error fails granted)
    by (inr page) (inr reasoned) =
        with_spot_as memory bytes c now m why d place s (Err error) answer stands
        (ap (λ (y : Spot). message_bytes c.form c.identity d y.id m.asked) (sym opens) ∙ page)
        (is ∙ ap (λ (r : DropReason). dropping number r bytes c) reasoned
        ∙ ap (λ (n : ℕ). dropping n (unwritten why) bytes c) same)

-- ---- all of it

pub decided_so_as : (memory : Memory) (bytes : List ℕ) (c : Client) (now : ℕ) (m : Met)
    (d other : DecisionSeen) (answer : Answer) → d ≡ other
    → answer ≡ by_decision memory c now bytes m other
    → answer ≡ by_decision memory c now bytes m d
decided_so_as memory bytes c now m d other answer is said =
    said ∙ ap (λ (x : DecisionSeen). by_decision memory c now bytes m x) (sym is)

pub dropped_as : (memory : Memory) (bytes : List ℕ) (c : Client) (now : ℕ) (m : Met)
    (d : DecisionSeen) (number : ℕ) (why : DropReason) (answer : Answer) → d ≡ drops why
    → number ≡ m.number → answer ≡ dropping number why bytes c
    → answer ≡ by_decision memory c now bytes m d
dropped_as memory bytes c now m d number why answer is same said =
    decided_so_as memory bytes c now m d (drops why) answer is
    (said ∙ ap (λ (n : ℕ). dropping n why bytes c) same)

pub refused_as : (memory : Memory) (bytes : List ℕ) (c : Client) (now : ℕ) (m : Met)
    (d : DecisionSeen) (number : ℕ) (answer : Answer) → d ≡ refuses → number ≡ m.number
    → answer ≡ dropping_refusal number bytes c
    → answer ≡ by_decision memory c now bytes m d
refused_as memory bytes c now m d number answer is same said =
    decided_so_as memory bytes c now m d refuses answer is
    (said ∙ ap (λ (n : ℕ). dropping_refusal n bytes c) same)

pub unanswered_as : (memory : Memory) (from : SocketAddr) (bytes : List ℕ) (c : Client) (now : ℕ)
    → heard_in from bytes c ≡ None
    → (NotOurs, c) ≡ by_met memory c now bytes (heard_in from bytes c)
unanswered_as memory from bytes c now none =
    sym (ap (λ (o : Option Met). by_met memory c now bytes o) none)

pub by_its_decision_as : (memory : Memory) (from : SocketAddr) (bytes : List ℕ) (c : Client) (now : ℕ)
    (m : Met) (d : DecisionSeen) (answer : Answer) → heard_in from bytes c ≡ Some m
    → d ≡ decision_for c now bytes m → answer ≡ by_decision memory c now bytes m d
    → answer ≡ by_met memory c now bytes (heard_in from bytes c)
by_its_decision_as memory from bytes c now m d answer found decides said =
    said ∙ ap (λ (x : DecisionSeen). by_decision memory c now bytes m x) decides
    ∙ sym (ap (λ (o : Option Met). by_met memory c now bytes o) found)

pub class_as : (memory : Memory) (from : SocketAddr) (bytes : List ℕ) (c : Client) (now : ℕ)
    (class : MessageClass) (answer : Answer) → class_in bytes ≡ class
    → answer ≡ by_class memory from c now bytes class
    → answer ≡ by_class memory from c now bytes (class_in bytes)
class_as memory from bytes c now class answer is said =
    said ∙ ap (λ (x : MessageClass). by_class memory from c now bytes x) (sym is)

abbrev by_parts : Memory → SocketAddr → List ℕ → ℕ → Client → Bool → Answer
by_parts memory from bytes now c is_refused =
    if is_refused then (NotOurs, c) else by_class memory from c now bytes (class_in bytes)

pub unread_as : (memory : Memory) (from : SocketAddr) (bytes : List ℕ) (now : ℕ) (c : Client)
    (why : StunParseError) → refusal bytes ≡ Some why
    → (NotOurs, c) ≡ received memory from bytes now c
unread_as memory from bytes now c why is =
    sym (ap (λ (x : Option StunParseError). by_parts memory from bytes now c (is_some x)) is)

pub received_as : (memory : Memory) (from : SocketAddr) (bytes message : List ℕ) (now : ℕ) (c : Client)
    (answer : Answer) → message ≡ bytes → refusal bytes ≡ None
    → answer ≡ by_class memory from c now message (class_in message)
    → answer ≡ received memory from bytes now c
received_as memory from bytes message now c answer same read said =
    said ∙ ap (λ (x : List ℕ). by_class memory from c now x (class_in x)) same
    ∙ sym (ap (λ (o : Option StunParseError). by_parts memory from bytes now c (is_some o)) read)

-- ---- starting

refusal_by_page : (c : Client) (method number : ℕ) (body : Body) (options : Option Options)
    → chosen c ≡ Some number → refusal_to_start c method body options ≡ None
    → refusal_of_page c number (first_message c method number body options) ≡ None
refusal_by_page c method number body options is none =
    sym (ap (λ (o : Option ℕ). refusal_of_number c method body options o) is) ∙ none

-- an ID is chosen
pub is_chosen : {P : Type 0} (c : Client) (method : ℕ) (body : Body) (options : Option Options)
    → chosen c ≡ None → refusal_to_start c method body options ≡ None → P
is_chosen c method body options none refused =
    let h : ◌≡◌ {A = Option RequestError} (Some NoId) None =
    sym (ap (λ (o : Option ℕ). refusal_of_number c method body options o) none) ∙ refused in
    cc

-- the first message is written
pub is_written : {P : Type 0} (c : Client) (method number : ℕ) (body : Body)
    (options : Option Options) → chosen c ≡ Some number
    → refusal_to_start c method body options ≡ None
    → IsErr (first_message c method number body options) → P
is_written {P = P} c method number body options is none no_page =
    by (first_message c method number body options)
    (refusal_by_page c method number body options is none) no_page
  where
    by : (page : Page?) → refusal_of_page c number page ≡ None → IsErr page → P
    by (Err why) none no_page = cc
    by (Ok bytes) none no_page = cc

-- and stored
pub is_stored : (c : Client) (method number : ℕ) (body : Body) (options : Option Options)
    (bytes : List ℕ) → chosen c ≡ Some number
    → first_message c method number body options ≡ Ok bytes
    → refusal_to_start c method body options ≡ None
    → start_refusal c.requests (id_of c.seed number) ≡ None
is_stored c method number body options bytes is written none =
    by (start_refusal c.requests (id_of c.seed number))
    (sym (ap (λ (p : Page?). refusal_of_page c number p) written)
    ∙ refusal_by_page c method number body options is none)
  where
    by : (o : Option StartRefusal) → option_map error_of o ≡ None → o ≡ None
    by None is = refl
    by (Some why) is = cc
