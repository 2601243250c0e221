-- A client stays in order over each datagram.
use Rattle.std.proofs.Common.{◌<◌, ◌≡◌, ◌∙◌, ◌⊎◌, ℕ, Bool, true, false, List, [], ◌∷◌, Option, Some}
use Rattle.std.proofs.Common.{None, Ok, Err}
use Rattle.std.proofs.Common.{◌+◌, cond, inl, inr, length, refl, subst, sym}
use Rattle.std.specs.BTreeMap.{is_at}
use Rattle.std.specs.Option.{is_some, option_and_then, option_map}
use Rattle.std.specs.Ordering.{nat_cmp}
use Rattle.std.specs.Prelude.{◌&&◌, ⊤, find}
use Rattle.std.specs.declared.net.socket_addr.SocketAddr.{SocketAddr}
use Rattle.stun_base.specs.Header.{transaction_id_field}
use Rattle.stun_base.specs.MessageType.{class_in}
use Rattle.stun_base.specs.declared.wire.message_type.MessageClass.{MessageClass}
use Rattle.stun_base.specs.declared.wire.message_type.MessageClass.TheVariants as Classes
use Rattle.stun_types.specs.Message.{refusal}
use Rattle.stun_extra.specs.CanonicalAddress.{is_same_address}
use Rattle.stun_agent.specs.Statistics.{Tally}
use Rattle.stun_agent.specs.Tables.{datum_at, request_in}
use Rattle.stun_client.specs.Challenges.{Answered}
use Rattle.stun_client.specs.Challenging.{code_in}
use Rattle.stun_client.specs.Standing.{confirming}
use Rattle.stun_client.specs.Ids.{id_of}
use Rattle.stun_client.specs.Judging.{Verdict}
use Rattle.stun_client.specs.Outcomes.{outcome_of}
use Rattle.stun_client.specs.Answers.{is_answer}
use Rattle.stun_client.specs.Standing.{StandingSeen}
use Rattle.stun_client_calls.specs.Receiving.{end_after}
use Rattle.stun_client_calls.specs.Receiving.{is_success_class}
use Rattle.stun_client_endpoint.specs.Written.{Page?}
use Rattle.stun_client_endpoint.specs.declared.ended.DropReason.{DropReason}
use Rattle.stun_client_endpoint.specs.declared.ended.DropReason.TheVariants as Reasons
use Rattle.stun_client_endpoint.specs.declared.ended.RequestEnd.TheVariants as how
use Rattle.stun_client_endpoint.specs.declared.told.Received.TheVariants.{Indication, NotOurs}
use Rattle.stun_client_requests.specs.Laws.{IsRequests}
use Rattle.stun_client_requests.specs.Requests.{after_again, after_answering, after_replacing}
use Rattle.stun_client_requests.specs.Requests.{datum_of, number_at}
use Rattle.stun_client_requests.specs.declared.requests.Request.{Request}
use Rattle.stun_client_requests.proofs.NumberLemmas.{apart}
use Rattle.stun_client_calls.specs.Clients.{Client, chosen, plan_for}
use Rattle.stun_client_calls.specs.Deciding.{DecisionSeen, Place, answered}
use Rattle.stun_client_calls.specs.Deciding.{decided, drops}
use Rattle.stun_client_calls.specs.Deciding.{refuses, turns, challenged_out}
use Rattle.stun_client_calls.specs.Endpoints.{EndSeen, bare_end, without_all}
use Rattle.stun_client_calls.specs.Ids.{number_in}
use Rattle.stun_client_calls.specs.Laws.{IsAnswerOrDrop, decision_on}
use Rattle.stun_client_calls.specs.Messages.{AllSent, AskedSeen, SentSeen}
use Rattle.stun_client_calls.specs.Messages.{message_at}
use Rattle.stun_client_calls.specs.Messages.{counted_on, new_asked, rank_after}
use Rattle.stun_client_calls.specs.Messages.{turned}
use Rattle.stun_client_calls.specs.Receiving.{Answer, Memory, Met, Spot, UnlessMemory}
use Rattle.stun_client_calls.specs.Receiving.{as_current, as_earlier, as_expected}
use Rattle.stun_client_calls.specs.Receiving.{by_class, by_decision, by_met, current_of}
use Rattle.stun_client_calls.specs.Receiving.{decision_for}
use Rattle.stun_client_calls.specs.Receiving.{dropping, earlier_of, ended_by, exchanged_ids}
use Rattle.stun_client_calls.specs.Receiving.{forgone, heard_in, if_method, judge_for, met, met_by}
use Rattle.stun_client_calls.specs.Receiving.{moment_of, notes as notes_of, received}
use Rattle.stun_client_calls.specs.Receiving.{round_trip_of, spot_of}
use Rattle.stun_client_calls.specs.Receiving.{turn_to, turned_at, turned_by, turned_to}
use Rattle.stun_client_calls.specs.Receiving.{unwritten, without_memory}
use Rattle.stun_client_calls.specs.Writing.{message_bytes}
use Rattle.stun_client_calls.specs.declared.asked.Change.TheVariants.{Noted, Refused as RefusedOf}
use Rattle.stun_client_calls.specs.declared.turning.Why.{Why}
use Rattle.stun_client_calls.proofs.DecidingLemmas.{earlier_answers_or_drops, within}
use Rattle.stun_client_calls.proofs.EachLemmas.{answer_each}
use Rattle.stun_client_calls.proofs.HeardLemmas.{chosen_is_free}
use Rattle.stun_client_calls.proofs.PlaceLemmas.{IsPlace, IsPlaced, placed}
use Rattle.stun_client_calls.proofs.ReceivingLemmas.{heard_is}
use Rattle.stun_client_calls.proofs.TurnLemmas.{All, some_is}
use Rattle.stun_client_runs.specs.Kept.{AreDerived, IsClient, IsCurrent, IsDerived, sent_at}
use Rattle.stun_client_runs.specs.Noted.{AreNoted, AreRanked, NotesMessages}
use Rattle.stun_client_runs.proofs.ChangeLemmas.{IsThere, none_at, number_is, there_by_datum}
use Rattle.stun_client_runs.proofs.EachLemmas.{IsAfter, Was, after_around, after_none, was_same}
use Rattle.stun_client_runs.proofs.EachLemmas.{was_there}
use Rattle.stun_client_runs.proofs.EntryLemmas.{find_there}
use Rattle.stun_client_runs.proofs.NotedLemmas.{IsRankFor, former_earlier, noted_moved}
use Rattle.stun_client_runs.proofs.NotedLemmas.{ranked_turned, stays_earlier}
use Rattle.stun_client_runs.proofs.PollLemmas.{answering_client, answering_noted, changed_after}
use Rattle.stun_client_runs.proofs.TurnLemmas.{IsMoved, derived_former, moved, moved_is, moved_so}

found_derived : (seed : List ℕ) (p : ℕ × SentSeen → Bool) (es : AllSent) → AreDerived seed es
    → (e : ℕ × SentSeen) → find p es ≡ Some e → IsDerived seed e.1.id
found_derived seed p [] are e is = cc
found_derived seed p (x ∷ xs) are e is = by (p x) is (found_derived seed p xs are.1 e)
  where
    by : (b : Bool) → cond b (Some x) (find p xs) ≡ Some e
        → (find p xs ≡ Some e → IsDerived seed e.1.id) → IsDerived seed e.1.id
    by true is rest =
        subst (λ (y : ℕ × SentSeen). IsDerived seed y.1.id) (some_is x e is) are.0
    by false is rest = rest is

-- its ID is derived from the seed
abbrev FromSeed : List ℕ → Place → Type 0
FromSeed seed p = IsDerived seed p.1

-- it is an earlier message
abbrev IsOf : AskedSeen → Place → Type 0
IsOf a p = (s : SentSeen) × (sent_at p.0 a.earlier ≡ Some s) × (s.id ≡ p.1)

-- ---- the message that a response answers

-- it is a message of an outstanding request, and its ID is that of the request if it is the current
-- one
pub record IsMet (c : Client) (id : ℕ) (m : Met) : Type 0 where
  pub stored : IsThere c.requests m.number m.asked
  pub current : m.is_current ≡ true → stored.id ≡ id

met_current : (c : Client) (id n : ℕ) (m : Met) → IsRequests c.requests
    → number_at id c.requests.table.attached ≡ Some n → current_of c n ≡ Some m → IsMet c id m
met_current c id n m i there is = by (datum_of n c.requests) refl is
  where
    by : (o : Option AskedSeen) → datum_of n c.requests ≡ o → option_map (as_current n) o ≡ Some m
        → IsMet c id m
    by None some is = cc
    by (Some a) some is =
        let found = there_by_datum c.requests n a i some in
        subst (λ (x : Met). IsMet c id x) (some_is (as_current n a) m is) (record {
          stored = found;
          current = λ now. some_is found.id id (sym found.named ∙ i.one.named id n there);
        })

met_earlier : (c : Client) (id n : ℕ) (m : Met) → IsRequests c.requests
    → earlier_of id c n ≡ Some m → IsMet c id m
met_earlier c id n m i is = by (datum_of n c.requests) refl is
  where
    of : (a : AskedSeen) → datum_of n c.requests ≡ Some a → (o : Option (ℕ × SentSeen))
        → option_map (as_earlier n a) o ≡ Some m → IsMet c id m
    of a some None is = cc
    of a some (Some e) is =
        subst (λ (x : Met). IsMet c id x) (some_is (as_earlier n a e) m is) (record {
          stored = there_by_datum c.requests n a i some;
          current = λ now. cc;
        })

    by : (o : Option AskedSeen) → datum_of n c.requests ≡ o
        → option_and_then (λ a. option_map (as_earlier n a) (message_at id a.earlier)) o ≡ Some m
        → IsMet c id m
    by None some is = cc
    by (Some a) some is = of a some (message_at id a.earlier) is

pub met_is : (c : Client) (id : ℕ) (m : Met) → IsRequests c.requests → met id c ≡ Some m → IsMet c id m
met_is c id m i is = by (number_at id c.requests.table.attached) refl is
  where
    noted : (o : Option ℕ) → option_and_then (earlier_of id c) o ≡ Some m → IsMet c id m
    noted None is = cc
    noted (Some n) is = met_earlier c id n m i is

    by : (o : Option ℕ) → number_at id c.requests.table.attached ≡ o → met_by id c o ≡ Some m
        → IsMet c id m
    by (Some n) there is = met_current c id n m i there is
    by None none is = noted (number_in id c.earlier) is

answered_is : (bytes : List ℕ) (o : Option Met) (m : Met) → if_method bytes o ≡ Some m → o ≡ Some m
answered_is bytes None m is = cc
answered_is bytes (Some x) m is = by (is_answer x.asked.method bytes) is
  where
    by : (b : Bool) → cond b (Some x) None ≡ Some m → Some x ≡ Some m
    by true is = is
    by false is = cc

-- ---- another message

-- where another message stands is free, and its ID is derived from the seed
pub record IsSpot (c : Client) (s : Spot) : Type 0 where
  pub free : number_at s.id c.requests.table.attached ≡ None
  pub from_seed : IsDerived c.seed s.id

spot_is : (c : Client) (a : AskedSeen) (place : Option Place) (s : Spot)
    → IsPlace (FromSeed c.seed) place → spot_of c a place ≡ Some s → IsSpot c s
spot_is c a None s at is = by (chosen c) refl is
  where
    by : (o : Option ℕ) → chosen c ≡ o → option_map
        (λ number. record {
          id = id_of c.seed number;
          rank = rank_after (counted_on a.turns);
          next_id = number + 1;
        }) o ≡ Some s → IsSpot c s
    by None some is = cc
    by (Some number) some is =
        subst (λ (x : Spot). IsSpot c x) (some_is _ s is) (record {
          free = chosen_is_free c number some;
          from_seed = record { id_number = number; derived = refl };
        })
spot_is c a (Some p) s at is = by (number_at p.1 c.requests.table.attached) refl is
  where
    by : (o : Option ℕ) → number_at p.1 c.requests.table.attached ≡ o
        → cond (is_some o) None (Some (record { id = p.1; rank = p.0; next_id = c.next_id }))
        ≡ Some s
        → IsSpot c s
    by None none is =
        subst (λ (x : Spot). IsSpot c x) (some_is _ s is) (record { free = none; from_seed = at })
    by (Some n) some is = cc

-- its rank is that of a new message, or that of the earlier message with its ID
spot_rank : (c : Client) (a : AskedSeen) (place : Option Place) (s : Spot) → IsPlace (IsOf a) place
    → spot_of c a place ≡ Some s → IsRankFor a s.rank s.id
spot_rank c a None s at is = by (chosen c) is
  where
    by : (o : Option ℕ) → option_map
        (λ number. record {
          id = id_of c.seed number;
          rank = rank_after (counted_on a.turns);
          next_id = number + 1;
        }) o ≡ Some s → IsRankFor a s.rank s.id
    by None is = cc
    by (Some number) is =
        subst (λ (x : Spot). IsRankFor a x.rank x.id) (some_is _ s is) (inl refl)
spot_rank c a (Some p) s at is = by (is_some (number_at p.1 c.requests.table.attached)) is
  where
    by : (b : Bool)
        → cond b None (Some (record { id = p.1; rank = p.0; next_id = c.next_id })) ≡ Some s
        → IsRankFor a s.rank s.id
    by true is = cc
    by false is = subst (λ (x : Spot). IsRankFor a x.rank x.id) (some_is _ s is) (inr at)

-- another message of a request may become the current one
abbrev IsRanked : Client → AskedSeen → Spot → Type 0
IsRanked c a s = IsRankFor a s.rank s.id × (a.turns < c.turns)

first_of : (a b : Bool) → (a && b) ≡ true → a ≡ true
first_of true b is = refl
first_of false b is = cc

turned_to_after : (memory : Memory) (c : Client) (now : ℕ) (response : List ℕ) (m : Met) (why : Why)
    (d : Option Answered) (s : Spot) (bytes : List ℕ) → IsClient c
    → IsMet c (transaction_id_field response) m → m.is_current ≡ true → IsSpot c s
    → (NotesMessages c → IsRanked c m.asked s)
    → message_bytes c.form c.identity d s.id m.asked ≡ Ok bytes
    → IsAfter c (turned_to memory c now response m why d s bytes).1
turned_to_after memory c now response m why d s bytes is at now_current spot ranks written =
    after_around c requests last.standing last.next_id last.earlier moving.client
    (λ k p here. by k p (moving.which k p here)) noted
  where
    last : Client
    last = (turned_to memory c now response m why d s bytes).1

    b : AskedSeen
    b = turned memory.is_kept (transaction_id_field response) (turn_to s why d) m.asked

    empty : AskedSeen
    empty = new_asked m.asked.method [] None 0 None

    requests : All
    requests =
        after_replacing m.number b
        (after_again m.number (record { count = length response; moment = Some now }) s.id bytes
        (plan_for c m.asked) empty now c.requests)

    current : IsCurrent c at.stored.id at.stored.q.datum
    current = is.current at.stored.id at.stored.q at.stored.there

    own : IsDerived c.seed (transaction_id_field response)
    own = subst (λ k. IsDerived c.seed k) (at.current now_current) current.from_seed

    off : is_at (nat_cmp s.id) at.stored.id ≡ false
    off = apart s.id at.stored.id (λ same. differs same)
      where
        differs : s.id ≡ at.stored.id → ⊥
        differs same =
            let none : number_at at.stored.id c.requests.table.attached ≡ None =
            subst (λ k. number_at k c.requests.table.attached ≡ None) same spot.free in
            let some =
            number_is at.stored.id m.number at.stored.q c.requests.table.attached at.stored.there
            at.stored.number in
            cc

    moves : (sent : Tally) × (answered : Tally)
        × (after_replacing m.number b
        (after_again m.number (record { count = length response; moment = Some now }) s.id bytes
        (plan_for c m.asked) empty now c.requests)
        ≡ moved c.requests m.number at.stored.id s.id
        (request_in c.requests.table bytes (plan_for c m.asked) now) empty b sent answered)
    moves =
        moved_is c.requests m.number at.stored.id s.id now
        (record { count = length response; moment = Some now }) bytes (plan_for c m.asked) empty b
        current.transaction at.stored.named current.sent off

    moving : IsMoved c m.number at.stored.id s.id b requests
    moving =
        subst (λ (r : All). IsMoved c m.number at.stored.id s.id b r) (sym moves.2)
        (moved_so c m.number at.stored.id s.id at.stored.q empty b
        (request_in c.requests.table bytes (plan_for c m.asked) now) moves.0 moves.1 is
        at.stored.named at.stored.there at.stored.number spot.free spot.from_seed is.server written
        (derived_former c.seed memory.is_kept m.asked.rank s.rank _ m.asked.earlier own
        (subst (λ (x : AskedSeen). AreDerived c.seed x.earlier) at.stored.datum
        (is.earlier at.stored.id at.stored.q at.stored.there))))

    noted : NotesMessages c → AreNoted c.turns last.earlier requests.table.attached
    noted notes =
        subst (λ k. AreNoted c.turns
        (exchanged_ids (notes_of memory) (transaction_id_field response) s.id k c.earlier)
        requests.table.attached) at.stored.number
        (noted_moved c.turns c.earlier c.requests.table.attached notes requests.table.attached
        (transaction_id_field response) s.id at.stored.q (record { number = m.number; datum = b })
        (notes_of memory)
        (subst (λ k. datum_at k c.requests.table.attached ≡ Some at.stored.q)
        (at.current now_current) at.stored.there)
        (none_at s.id c.requests.table.attached spot.free) moving.own
        (λ k other away. moving.others k other
        (subst (λ j. is_at (nat_cmp j) k ≡ false) (sym (at.current now_current)) away))
        moving.which (sym at.stored.number)
        (ranked_turned c.turns m.asked memory.is_kept (transaction_id_field response)
        (turn_to s why d) notes.limit ranked (ranks notes).1 (ranks notes).0)
        (λ rank t there other.
        stays_earlier c.turns m.asked memory.is_kept (transaction_id_field response)
        (turn_to s why d) notes.limit ranked (ranks notes).1 (ranks notes).0 rank t
        (subst (λ (x : AskedSeen). sent_at rank x.earlier ≡ Some t) at.stored.datum there) other)
        (λ on.
        former_earlier c.turns m.asked memory.is_kept (transaction_id_field response)
        (turn_to s why d) notes.limit ranked (ranks notes).1 (ranks notes).0
        (first_of memory.is_kept memory.is_noted on)))
      where
        ranked : AreRanked c.turns m.asked
        ranked =
            subst (λ (x : AskedSeen). AreRanked c.turns x) at.stored.datum
            (notes.ranked at.stored.id at.stored.q at.stored.there)

    by : (k : ℕ) (p : Request AskedSeen)
        → (record { number = m.number; datum = b } ≡ p)
        ⊎ (datum_at k c.requests.table.attached ≡ Some p) → Was c p
    by k p (inl new) = subst (λ (x : Request AskedSeen). Was c x) new
        (was_there c m.number m.asked b at.stored refl refl refl)
    by k p (inr old) = was_same c k p old

dropping_after : (n : ℕ) (why : DropReason) (bytes : List ℕ) (c : Client) → IsClient c
    → IsAfter c (dropping n why bytes c).1
dropping_after n why bytes c is = changed_after (Noted why (code_in bytes)) n c is

turned_by_after : (memory : Memory) (c : Client) (now : ℕ) (response : List ℕ) (m : Met) (why : Why)
    (d : Option Answered) (s : Spot) → IsClient c → IsMet c (transaction_id_field response) m
    → m.is_current ≡ true → IsSpot c s → (NotesMessages c → IsRanked c m.asked s) → (page : Page?)
    → message_bytes c.form c.identity d s.id m.asked ≡ page
    → IsAfter c (turned_by memory c now response m why d s page).1
turned_by_after memory c now response m why d s is at now_current spot ranks (Err error) written =
    dropping_after m.number (unwritten why) response c is
turned_by_after memory c now response m why d s is at now_current spot ranks (Ok bytes) written =
    turned_to_after memory c now response m why d s bytes is at now_current spot ranks written

turned_at_after : (memory : Memory) (c : Client) (now : ℕ) (response : List ℕ) (m : Met) (why : Why)
    (d : Option Answered) (place : Option Place) → IsClient c
    → IsMet c (transaction_id_field response) m → m.is_current ≡ true
    → IsPlace (FromSeed c.seed) place
    → (NotesMessages c → IsPlace (IsOf m.asked) place × (m.asked.turns < c.turns))
    → IsAfter c (turned_at memory c now response m why d (spot_of c m.asked place)).1
turned_at_after memory c now response m why d place is at now_current where_it_is ranks =
    by (spot_of c m.asked place) refl
  where
    by : (o : Option Spot) → spot_of c m.asked place ≡ o
        → IsAfter c (turned_at memory c now response m why d o).1
    by None some = dropping_after m.number Reasons.OutOfMemory response c is
    by (Some s) some =
        turned_by_after memory c now response m why d s is at now_current
        (spot_is c m.asked place s where_it_is some)
        (λ notes.
        let two = ranks notes in (spot_rank c m.asked place s two.0 some, two.1))
        (message_bytes c.form c.identity d s.id m.asked) refl

-- ---- all of it

-- another message becomes the current one only in place of the current one
abbrev IfTurn : Bool → DecisionSeen → Type 0
IfTurn is_current (answered by) = ⊤
IfTurn is_current challenged_out = ⊤
IfTurn is_current (turns why place d) = is_current ≡ true
IfTurn is_current refuses = ⊤
IfTurn is_current (drops why) = ⊤

turn_of_current : (b : Bool) (v : DecisionSeen) → (b ≡ false → IsAnswerOrDrop v) → IfTurn b v
turn_of_current b (answered by) quiet = tt
turn_of_current b challenged_out quiet = tt
turn_of_current true (turns why place d) quiet = refl
turn_of_current false (turns why place d) quiet = absurd (quiet refl)
turn_of_current b refuses quiet = tt
turn_of_current b (drops why) quiet = tt

-- it does so less often than it may
abbrev IfRanked : Client → AskedSeen → DecisionSeen → Type 0
IfRanked c a (answered by) = ⊤
IfRanked c a challenged_out = ⊤
IfRanked c a (turns why place d) =
    NotesMessages c → IsPlace (IsOf a) place × (a.turns < c.turns)
IfRanked c a refuses = ⊤
IfRanked c a (drops why) = ⊤

ranked_if : (c : Client) (now : ℕ) (a : AskedSeen) (w : Verdict) (v : DecisionSeen)
    → (NotesMessages c → AreRanked c.turns a)
    → decided (judge_for c a).limits c.standing now a w ≡ v → IfRanked c a v
ranked_if c now a w (answered by) ranked is = tt
ranked_if c now a w challenged_out ranked is = tt
ranked_if c now a w (turns why place d) ranked is = λ notes.
    let its = ranked notes in (
      subst (IsPlaced (IsOf a)) is
          (placed (IsOf a) a
          (λ p e found. (e.1, find_there p a.earlier e its.ascending found, refl))
          (judge_for c a).limits c.standing now w),
      (within (judge_for c a).limits c.standing now a w why place d is).in_limit,
    )
ranked_if c now a w refuses ranked is = tt
ranked_if c now a w (drops why) ranked is = tt

ended_after : (c : Client) (standing : StandingSeen) (end : EndSeen) (bytes : List ℕ) (now : ℕ)
    (m : Met) → IsClient c → IsThere c.requests m.number m.asked
    → IsAfter c (ended_by end bytes now m (record c { standing = standing }))
ended_after c standing end bytes now m is at =
    after_around c (after_answering m.number (length bytes) (moment_of now m) end c.requests)
    standing c.next_id (without_all m.asked.earlier c.earlier)
    (answering_client m.number (length bytes) (moment_of now m) end c is)
    (answer_each (Was c) c.requests (was_same c) is.requests.one.in_order m.number (length bytes)
    (moment_of now m) end)
    (λ notes.
    answering_noted m.number (length bytes) (moment_of now m) end c m.asked is at notes)

decided_after : (memory : Memory) (c : Client) (now : ℕ) (bytes : List ℕ) (m : Met)
    (v : DecisionSeen) → IsClient c → IsMet c (transaction_id_field bytes) m
    → IsPlaced (FromSeed c.seed) v → IfTurn m.is_current v → IfRanked c m.asked v
    → IsAfter c (by_decision memory c now bytes m v).1
decided_after memory c now bytes m (answered by) is at where_it_is turn ranks =
    ended_after c (confirming (is_success_class (class_in bytes)) c.standing m.signed_for)
    (record {
      end = how.Answered (outcome_of c.understood bytes) by;
      response = bytes;
      round_trip = round_trip_of now m;
    }) bytes now m is at.stored
decided_after memory c now bytes m challenged_out is at where_it_is turn ranks =
    ended_after c c.standing (bare_end (end_after m.asked.signed_for bytes)) bytes now m is at.stored
decided_after memory c now bytes m (turns why place d) is at where_it_is turn ranks =
    turned_at_after memory c now bytes m why d place is at turn where_it_is ranks
decided_after memory c now bytes m refuses is at where_it_is turn ranks =
    changed_after (RefusedOf (code_in bytes)) m.number c is
decided_after memory c now bytes m (drops why) is at where_it_is turn ranks =
    dropping_after m.number why bytes c is

met_after : (memory : Memory) (from : SocketAddr) (c : Client) (now : ℕ) (bytes : List ℕ)
    → IsClient c → IsAfter c (by_met memory c now bytes (heard_in from bytes c)).1
met_after memory from c now bytes is = by (heard_in from bytes c) refl
  where
    by : (o : Option Met) → heard_in from bytes c ≡ o → IsAfter c (by_met memory c now bytes o).1
    by None none = after_none c is
    by (Some m) some =
        let at =
        met_is c (transaction_id_field bytes) m is.requests
        (answered_is bytes (met (transaction_id_field bytes) c) m
        (heard_is from bytes c m some)) in
        let are : AreDerived c.seed m.asked.earlier =
        subst (λ (x : AskedSeen). AreDerived c.seed x.earlier) at.stored.datum
        (is.earlier at.stored.id at.stored.q at.stored.there) in
        decided_after memory c now bytes m (decision_for c now bytes m) is at
        (placed (FromSeed c.seed) m.asked
        (λ p e found. found_derived c.seed p m.asked.earlier are e found)
        (judge_for c m.asked).limits c.standing now _)
        (turn_of_current m.is_current (decision_for c now bytes m) (λ off.
        subst
        (λ b. IsAnswerOrDrop (decision_on (judge_for c m.asked) b now m.asked m.signed_for bytes))
        (sym off) (earlier_answers_or_drops (judge_for c m.asked) now m.asked m.signed_for bytes)))
        (ranked_if c now m.asked _ (decision_for c now bytes m)
        (λ notes.
        subst (λ (x : AskedSeen). AreRanked c.turns x) at.stored.datum
        (notes.ranked at.stored.id at.stored.q at.stored.there)) refl)

class_after : (memory : Memory) (from : SocketAddr) (c : Client) (now : ℕ) (bytes : List ℕ)
    (class : MessageClass) → IsClient c → IsAfter c (by_class memory from c now bytes class).1
class_after memory from c now bytes Classes.Request is = after_none c is
class_after memory from c now bytes Classes.Indication is = by (is_same_address from c.server)
  where
    by : (b : Bool) → IsAfter c (cond {A = Answer} b (Indication bytes, c) (NotOurs, c)).1
    by true = after_none c is
    by false = after_none c is
class_after memory from c now bytes Classes.Success is = met_after memory from c now bytes is
class_after memory from c now bytes Classes.Error is = met_after memory from c now bytes is

pub received_after : (memory : Memory) (from : SocketAddr) (bytes : List ℕ) (now : ℕ) (c : Client)
    → IsClient c → IsAfter c (received memory from bytes now c).1
received_after memory from bytes now c is = by (is_some (refusal bytes))
  where
    by : (b : Bool)
        → IsAfter c (cond b (NotOurs, c) (by_class memory from c now bytes (class_in bytes))).1
    by true = after_none c is
    by false = class_after memory from c now bytes (class_in bytes) is

pub heard_after : (from : SocketAddr) (bytes : List ℕ) (now : ℕ) (c : Client) (answer : Answer)
    → IsClient c
    → UnlessMemory (λ memory. received memory from bytes now c) bytes (heard_in from bytes c) c
    answer
    → IsAfter c answer.1
heard_after from bytes now c answer is (as_expected memory same) =
    subst (λ (a : Answer). IsAfter c a.1) (sym same) (received_after memory from bytes now c is)
heard_after from bytes now c answer is (forgone same) =
    subst (λ (a : Answer). IsAfter c a.1) (sym same) (by (heard_in from bytes c))
  where
    by : (o : Option Met) → IsAfter c (without_memory bytes c o).1
    by None = after_none c is
    by (Some m) = dropping_after m.number Reasons.OutOfMemory bytes c is
