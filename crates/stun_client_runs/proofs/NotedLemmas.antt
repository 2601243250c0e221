-- Each ID that is noted stays that of an earlier message, over each change.
use Rattle.std.proofs.Common.{◌≡◌, ◌∙◌, ◌⊎◌, ◌<◌, ◌≤◌, ◌+◌, ℕ, Bool, true, false, [], ◌∷◌, Some}
use Rattle.std.proofs.Common.{None, ap, arith, cond, inl, inr, refl, subst, sym}
use Rattle.std.specs.BTreeMap.{insert_entry, is_at}
use Rattle.std.specs.Map.{remove_entry}
use Rattle.std.specs.Ordering.{nat_cmp}
use Rattle.stun_agent.specs.Tables.{datum_at, set_datum, with_datum}
use Rattle.stun_agent.proofs.Ascending.{IsAscending-insert, IsAscending-remove}
use Rattle.stun_client_requests.specs.Numbers.{IsAt}
use Rattle.stun_client_requests.specs.declared.requests.Request.{Request}
use Rattle.stun_client_requests.proofs.NumberLemmas.{Ascend, apart, own_key, same_key}
use Rattle.stun_client_requests.proofs.RequestLemmas.{at_insert, at_remove}
use Rattle.stun_client_calls.specs.Endpoints.{without_all}
use Rattle.stun_client_calls.specs.Ids.{Earlier, number_in}
use Rattle.stun_client_calls.specs.Messages.{AllSent, AskedSeen, SentSeen, TurnSeen, counted_on}
use Rattle.stun_client_calls.specs.Messages.{leaves_doubt, rank_after, turned, with_former}
use Rattle.stun_client_calls.specs.Messages.{without_message}
use Rattle.stun_client_calls.specs.Receiving.{exchanged_ids}
use Rattle.stun_client_calls.proofs.EachLemmas.{Stored}
use Rattle.stun_client_calls.proofs.TurnLemmas.{some_is}
use Rattle.stun_client_runs.specs.Kept.{sent_at}
use Rattle.stun_client_runs.specs.Noted.{AreNoted, AreRanked, HasEarlier}
use Rattle.stun_client_runs.proofs.ChangeLemmas.{HasSameMessages}
use Rattle.stun_client_runs.proofs.EntryLemmas.{at_other, at_own, at_set, at_split}

-- ---- IDs that are forgotten

none_left : (gone : AllSent) (ids : Earlier) (id : ℕ) → Ascend ids → number_in id ids ≡ None
    → number_in id (without_all gone ids) ≡ None
none_left [] ids id s none = none
none_left (e ∷ gone) ids id s none =
    none_left gone (remove_entry (is_at (nat_cmp e.1.id)) ids) id
    (IsAscending-remove (is_at (nat_cmp e.1.id)) ids s)
    (at_remove e.1.id ids s id ∙ by (is_at (nat_cmp e.1.id) id))
  where
    by : (b : Bool) → cond b None (number_in id ids) ≡ None
    by true = refl
    by false = none

gone_all : (gone : AllSent) (ids : Earlier) (rank : ℕ) (s : SentSeen) → Ascend ids
    → sent_at rank gone ≡ Some s → number_in s.id (without_all gone ids) ≡ None
gone_all [] ids rank s sorted there = cc
gone_all (e ∷ gone) ids rank s sorted there =
    by (is_at (nat_cmp rank) e.0) there
    (λ h. gone_all gone (remove_entry (is_at (nat_cmp e.1.id)) ids) rank s
    (IsAscending-remove (is_at (nat_cmp e.1.id)) ids sorted) h)
  where
    by : (b : Bool) → cond b (Some e.1) (sent_at rank gone) ≡ Some s
        → (sent_at rank gone ≡ Some s
        → number_in s.id (without_all gone (remove_entry (is_at (nat_cmp e.1.id)) ids)) ≡ None)
        → number_in s.id (without_all gone (remove_entry (is_at (nat_cmp e.1.id)) ids)) ≡ None
    by true there rest =
        subst (λ (x : SentSeen). number_in x.id
        (without_all gone (remove_entry (is_at (nat_cmp e.1.id)) ids)) ≡ None) (some_is e.1 s there)
        (none_left gone (remove_entry (is_at (nat_cmp e.1.id)) ids) e.1.id
        (IsAscending-remove (is_at (nat_cmp e.1.id)) ids sorted)
        (at_own e.1.id None ids (remove_entry (is_at (nat_cmp e.1.id)) ids)
        (at_remove e.1.id ids sorted)))
    by false there rest = rest there

was_noted : (gone : AllSent) (ids : Earlier) (id n : ℕ) → Ascend ids
    → number_in id (without_all gone ids) ≡ Some n → number_in id ids ≡ Some n
was_noted [] ids id n s there = there
was_noted (e ∷ gone) ids id n s there =
    by (was_noted gone (remove_entry (is_at (nat_cmp e.1.id)) ids) id n
    (IsAscending-remove (is_at (nat_cmp e.1.id)) ids s) there)
  where
    by : number_in id (remove_entry (is_at (nat_cmp e.1.id)) ids) ≡ Some n
        → number_in id ids ≡ Some n
    by here = elim (at_split e.1.id None ids (remove_entry (is_at (nat_cmp e.1.id)) ids)
        (at_remove e.1.id ids s) id (Some n) here) [
          | inl missing ↦ let none = missing.1 in cc
          | inr old ↦ old.1
        ]

ids_left : (gone : AllSent) (ids : Earlier) → Ascend ids → Ascend (without_all gone ids)
ids_left [] ids s = s
ids_left (e ∷ gone) ids s =
    ids_left gone (remove_entry (is_at (nat_cmp e.1.id)) ids)
    (IsAscending-remove (is_at (nat_cmp e.1.id)) ids s)

-- ---- changes of the table

ranked_same : (most : ℕ) (a b : AskedSeen) → HasSameMessages a b → AreRanked most a
    → AreRanked most b
ranked_same most a b keeps is = record {
  ascending = subst (λ (es : AllSent). Ascend es) (sym keeps.earlier) is.ascending;
  turns = let same = keeps.turns in let before = is.turns in omega (arith, same, before);
  current =
      let turns = keeps.turns in
      let rank = keeps.rank in
      let before = is.current in
      omega (arith, turns, rank, before);
  apart = ap (λ r. sent_at r b.earlier) keeps.rank ∙ ap (λ es. sent_at a.rank es) keeps.earlier
      ∙ is.apart;
  above = λ rank s there.
      let turns = keeps.turns in
      let before = is.above rank s (sym (ap (λ es. sent_at rank es) keeps.earlier) ∙ there) in
      omega (arith, turns, before);
}

module _ (most : ℕ) (ids : Earlier) (all : Stored) (is : AreNoted most ids all) where
  -- a request is started under an ID that is free
  pub noted_put : (k : ℕ) (w : Request AskedSeen) → datum_at k all ≡ None → AreRanked most w.datum
      → AreNoted most ids (with_datum k w all)
  noted_put k w free own = record {
    limit = is.limit;
    in_order = is.in_order;
    ranked = λ id q there. elim (at_split k (Some w) all (with_datum k w all) (at_insert k w all) id
        (Some q) there) [
          | inl new ↦
              subst (λ (x : Request AskedSeen). AreRanked most x.datum) (some_is w q new.1) own
          | inr old ↦ is.ranked id q old.1
        ];
    noted = λ id n found. by (is.noted id n found);
  }
    where
      by : {id n : ℕ} → HasEarlier id n all → HasEarlier id n (with_datum k w all)
      by h = record {
        at = h.at;
        request = h.request;
        there =
            at_other k (Some w) all (with_datum k w all) (at_insert k w all) h.at
            (apart k h.at (λ same. differs same)) ∙ h.there;
        numbered = h.numbered;
        rank = h.rank;
        message = h.message;
        stored = h.stored;
        named = h.named;
      }
        where
          differs : k ≡ h.at → ⊥
          differs same =
              let none : datum_at h.at all ≡ None =
              subst (λ j. datum_at j all ≡ None) same free in
              let some = h.there in
              cc

  -- something else is stored of a request
  pub noted_set : (k : ℕ) (q w : Request AskedSeen) → datum_at k all ≡ Some q
      → w.number ≡ q.number → HasSameMessages q.datum w.datum
      → AreNoted most ids (set_datum k w all)
  noted_set k q w there number keeps = record {
    limit = is.limit;
    in_order = is.in_order;
    ranked = λ id p here. elim (at_split k (Some w) all (set_datum k w all) at id (Some p) here) [
      | inl new ↦
          subst (λ (x : Request AskedSeen). AreRanked most x.datum) (some_is w p new.1)
          (ranked_same most q.datum w.datum keeps (is.ranked k q there))
      | inr old ↦ is.ranked id p old.1
    ];
    noted = λ id n found. by id n (is.noted id n found);
  }
    where
      at : IsAt k (Some w) all (set_datum k w all)
      at = at_set k q w all there

      by : (id n : ℕ) → HasEarlier id n all → HasEarlier id n (set_datum k w all)
      by id n h = which (is_at (nat_cmp k) h.at) refl
        where
          same : is_at (nat_cmp k) h.at ≡ true → q ≡ h.request
          same hit =
              some_is q h.request
              (sym there ∙ ap (λ j. datum_at j all) (sym (same_key k h.at hit)) ∙ h.there)

          which : (b : Bool) → is_at (nat_cmp k) h.at ≡ b → HasEarlier id n (set_datum k w all)
          which true hit = record {
            at = k;
            request = w;
            there = at_own k (Some w) all (set_datum k w all) at;
            numbered = number ∙ ap (λ (x : Request AskedSeen). x.number) (same hit) ∙ h.numbered;
            rank = h.rank;
            message = h.message;
            stored =
                ap (λ es. sent_at h.rank es) keeps.earlier
                ∙ ap (λ (x : Request AskedSeen). sent_at h.rank x.datum.earlier) (same hit)
                ∙ h.stored;
            named = h.named;
          }
          which false off = record {
            at = h.at;
            request = h.request;
            there = at_other k (Some w) all (set_datum k w all) at h.at off ∙ h.there;
            numbered = h.numbered;
            rank = h.rank;
            message = h.message;
            stored = h.stored;
            named = h.named;
          }

  -- a request is outstanding no more, and the IDs of its earlier messages are forgotten
  pub noted_out : (new : Stored) (k : ℕ) (q : Request AskedSeen) → datum_at k all ≡ Some q
      → IsAt k None all new → AreNoted most (without_all q.datum.earlier ids) new
  noted_out new k q there at = record {
    limit = is.limit;
    in_order = ids_left q.datum.earlier ids is.in_order;
    ranked = λ id p here. elim (at_split k None all new at id (Some p) here) [
      | inl missing ↦ let none = missing.1 in cc
      | inr old ↦ is.ranked id p old.1
    ];
    noted = λ id n found.
        by id n found
        (is.noted id n (was_noted q.datum.earlier ids id n is.in_order found));
  }
    where
      by : (id n : ℕ) → number_in id (without_all q.datum.earlier ids) ≡ Some n
          → HasEarlier id n all → HasEarlier id n new
      by id n found h = which (is_at (nat_cmp k) h.at) refl
        where
          which : (b : Bool) → is_at (nat_cmp k) h.at ≡ b → HasEarlier id n new
          which true hit =
              let same : h.request ≡ q =
              some_is h.request q
              (sym h.there ∙ ap (λ j. datum_at j all) (same_key k h.at hit) ∙ there) in
              let stored : sent_at h.rank q.datum.earlier ≡ Some h.message =
              ap (λ (x : Request AskedSeen). sent_at h.rank x.datum.earlier) (sym same)
              ∙ h.stored in
              let gone : number_in id (without_all q.datum.earlier ids) ≡ None =
              subst (λ j. number_in j (without_all q.datum.earlier ids) ≡ None) h.named
              (gone_all q.datum.earlier ids h.rank h.message is.in_order stored) in
              cc
          which false off = record {
            at = h.at;
            request = h.request;
            there = at_other k None all new at h.at off ∙ h.there;
            numbered = h.numbered;
            rank = h.rank;
            message = h.message;
            stored = h.stored;
            named = h.named;
          }

  -- another message of a request becomes the current one, in place of another, which is noted or
  -- not
  pub noted_moved : (new : Stored) (former id : ℕ) (q w : Request AskedSeen) (is_noted : Bool)
      → datum_at former all ≡ Some q → datum_at id all ≡ None → datum_at id new ≡ Some w
      → ((k : ℕ) → is_at (nat_cmp id) k ≡ false → is_at (nat_cmp former) k ≡ false
      → datum_at k new ≡ datum_at k all)
      → ((k : ℕ) (p : Request AskedSeen) → datum_at k new ≡ Some p
      → (w ≡ p) ⊎ (datum_at k all ≡ Some p))
      → w.number ≡ q.number → AreRanked most w.datum
      → ((rank : ℕ) (t : SentSeen) → sent_at rank q.datum.earlier ≡ Some t → (t.id ≡ id → ⊥)
      → sent_at rank w.datum.earlier ≡ Some t)
      → (is_noted ≡ true
      → (rank : ℕ) × (s : SentSeen) × (sent_at rank w.datum.earlier ≡ Some s) × (s.id ≡ former))
      → AreNoted most (exchanged_ids is_noted former id q.number ids) new
  noted_moved new former id q w is_noted there free own others which number ranked stays kept =
      record {
        limit = is.limit;
        in_order = sorted is_noted;
        ranked = λ k p here. rank_of k p (which k p here);
        noted = λ k n found. by is_noted refl k n found;
      }
    where
      removed : Ascend (remove_entry (is_at (nat_cmp id)) ids)
      removed = IsAscending-remove (is_at (nat_cmp id)) ids is.in_order

      sorted : (b : Bool) → Ascend (exchanged_ids b former id q.number ids)
      sorted true =
          IsAscending-insert (remove_entry (is_at (nat_cmp id)) ids) former q.number removed
      sorted false = removed

      rank_of : (k : ℕ) (p : Request AskedSeen) → (w ≡ p) ⊎ (datum_at k all ≡ Some p)
          → AreRanked most p.datum
      rank_of k p (inl new_one) =
          subst (λ (x : Request AskedSeen). AreRanked most x.datum) new_one ranked
      rank_of k p (inr old) = is.ranked k p old

      still : (k n : ℕ) → (k ≡ id → ⊥) → HasEarlier k n all → HasEarlier k n new
      still k n other h = at_former (is_at (nat_cmp former) h.at) refl
        where
          apart_id : is_at (nat_cmp id) h.at ≡ false
          apart_id = apart id h.at (λ same. differs same)
            where
              differs : id ≡ h.at → ⊥
              differs same =
                  let none : datum_at h.at all ≡ None =
                  subst (λ j. datum_at j all ≡ None) same free in
                  let some = h.there in
                  cc

          at_former : (b : Bool) → is_at (nat_cmp former) h.at ≡ b → HasEarlier k n new
          at_former true hit =
              let same : h.request ≡ q =
              some_is h.request q
              (sym h.there ∙ ap (λ j. datum_at j all) (same_key former h.at hit) ∙ there) in
              let stored : sent_at h.rank q.datum.earlier ≡ Some h.message =
              ap (λ (x : Request AskedSeen). sent_at h.rank x.datum.earlier) (sym same)
              ∙ h.stored in
              record {
                at = id;
                request = w;
                there = own;
                numbered = number ∙ ap (λ (x : Request AskedSeen). x.number) (sym same)
                    ∙ h.numbered;
                rank = h.rank;
                message = h.message;
                stored = stays h.rank h.message stored (λ equal. other (sym h.named ∙ equal));
                named = h.named;
              }
          at_former false off = record {
            at = h.at;
            request = h.request;
            there = others h.at apart_id off ∙ h.there;
            numbered = h.numbered;
            rank = h.rank;
            message = h.message;
            stored = h.stored;
            named = h.named;
          }

      old_one : (k n : ℕ) → number_in k (remove_entry (is_at (nat_cmp id)) ids) ≡ Some n
          → HasEarlier k n new
      old_one k n found = elim (at_split id None ids (remove_entry (is_at (nat_cmp id)) ids)
          (at_remove id ids is.in_order) k (Some n) found) [
            | inl missing ↦ let none = missing.1 in cc
            | inr old ↦ still k n (λ same. differs same old.0) (is.noted k n old.1)
          ]
        where
          differs : k ≡ id → is_at (nat_cmp id) k ≡ false → ⊥
          differs same off =
              let hit : is_at (nat_cmp id) k ≡ true =
              subst (λ j. is_at (nat_cmp id) j ≡ true) (sym same) (own_key id) in
              cc

      newly : (k n : ℕ) → is_noted ≡ true → k ≡ former → q.number ≡ n → HasEarlier k n new
      newly k n on same equal =
          let its = kept on in
          record {
            at = id;
            request = w;
            there = own;
            numbered = number ∙ equal;
            rank = its.0;
            message = its.1;
            stored = its.2;
            named = its.3 ∙ sym same;
          }

      by : (b : Bool) → is_noted ≡ b → (k n : ℕ)
          → number_in k (exchanged_ids b former id q.number ids) ≡ Some n → HasEarlier k n new
      by true on k n found =
          elim (at_split former (Some q.number) (remove_entry (is_at (nat_cmp id)) ids)
          (insert_entry nat_cmp (remove_entry (is_at (nat_cmp id)) ids) former q.number)
          (at_insert former q.number (remove_entry (is_at (nat_cmp id)) ids)) k (Some n) found) [
            | inl new_one ↦ newly k n on new_one.0 (some_is q.number n new_one.1)
            | inr old ↦ old_one k n old.1
          ]
      by false off k n found = old_one k n found

-- ---- the ranks of a request, once another message has become the current one

-- where it stands: at the rank of a new message, or at that of an earlier one with its ID
abbrev pub IsRankFor : AskedSeen → ℕ → ℕ → Type 0
IsRankFor a rank id =
    (rank ≡ rank_after (counted_on a.turns))
    ⊎ ((s : SentSeen) × (sent_at rank a.earlier ≡ Some s) × (s.id ≡ id))

module _ (most : ℕ) (a : AskedSeen) (is_kept : Bool) (former : ℕ) (t : TurnSeen)
    (limit : most ≤ 4294967295) (is : AreRanked most a) (low : a.turns < most)
    (for : IsRankFor a t.rank t.id) where
  abbrev b : AskedSeen
  b = turned is_kept former t a

  abbrev left : AllSent
  left = without_message t.rank a.earlier

  abbrev sent : SentSeen
  sent = record { id = former; signed_for = a.signed_for; is_doubted = leaves_doubt t.why }

  one_more : counted_on a.turns ≡ a.turns + 1
  one_more = omega (arith, low, limit)

  lower : rank_after b.turns ≤ rank_after a.turns
  lower = omega (arith, one_more)

  lowest : rank_after b.turns ≤ t.rank
  lowest = by for
    where
      by : IsRankFor a t.rank t.id → rank_after b.turns ≤ t.rank
      by (inl new) = omega (arith, new)
      by (inr old) = let before = is.above t.rank old.0 old.1 in let less = lower in
          omega (arith, before, less)

  apart_ranks : is_at (nat_cmp a.rank) t.rank ≡ false
  apart_ranks = apart a.rank t.rank (λ same. by for same)
    where
      by : IsRankFor a t.rank t.id → a.rank ≡ t.rank → ⊥
      by (inl new) same =
          let one = one_more in
          let before = is.current in
          let top = low in
          let most_is = limit in
          omega (arith, new, same, one, before, top, most_is)
      by (inr old) same =
          let none : sent_at t.rank a.earlier ≡ None =
          subst (λ r. sent_at r a.earlier ≡ None) same is.apart in
          let some = old.1 in
          cc

  left_at : IsAt t.rank None a.earlier left
  left_at = at_remove t.rank a.earlier is.ascending

  with_at : IsAt a.rank (Some sent) left (insert_entry nat_cmp left a.rank sent)
  with_at = at_insert a.rank sent left

  -- an earlier message stays that does not become the current one
  pub stays_earlier : (rank : ℕ) (s : SentSeen) → sent_at rank a.earlier ≡ Some s
      → (s.id ≡ t.id → ⊥) → sent_at rank b.earlier ≡ Some s
  stays_earlier rank s there other = by is_kept
    where
      off : is_at (nat_cmp t.rank) rank ≡ false
      off = apart t.rank rank (λ same. differs for same)
        where
          differs : IsRankFor a t.rank t.id → t.rank ≡ rank → ⊥
          differs (inl new) same =
              let one = one_more in
              let before = is.above rank s there in
              let top = low in
              let most_is = limit in
              omega (arith, new, same, one, before, top, most_is)
          differs (inr old) same =
              let found : sent_at rank a.earlier ≡ Some old.0 =
              subst (λ r. sent_at r a.earlier ≡ Some old.0) same old.1 in
              let equal : old.0 ≡ s = some_is old.0 s (sym found ∙ there) in
              other (ap (λ (x : SentSeen). x.id) (sym equal) ∙ old.2)

      away : is_at (nat_cmp a.rank) rank ≡ false
      away = apart a.rank rank (λ same. differs same)
        where
          differs : a.rank ≡ rank → ⊥
          differs same =
              let none : sent_at rank a.earlier ≡ None =
              subst (λ r. sent_at r a.earlier ≡ None) same is.apart in
              cc

      by : (x : Bool) → sent_at rank (with_former x a.rank sent left) ≡ Some s
      by true =
          at_other a.rank (Some sent) left (insert_entry nat_cmp left a.rank sent) with_at rank away
          ∙ at_other t.rank None a.earlier left left_at rank off ∙ there
      by false = at_other t.rank None a.earlier left left_at rank off ∙ there

  -- and the former one is stored, if it is kept
  pub former_earlier : is_kept ≡ true
      → (rank : ℕ) × (s : SentSeen) × (sent_at rank b.earlier ≡ Some s) × (s.id ≡ former)
  former_earlier on = (
    a.rank,
    sent,
    ap (λ x. sent_at a.rank (with_former x a.rank sent left)) on
        ∙ at_own a.rank (Some sent) left (insert_entry nat_cmp left a.rank sent) with_at,
    refl,
  )

  above_left : (rank : ℕ) (s : SentSeen) → sent_at rank left ≡ Some s → rank_after b.turns ≤ rank
  above_left rank s there = elim (at_split t.rank None a.earlier left left_at rank (Some s) there) [
    | inl missing ↦ let none = missing.1 in cc
    | inr old ↦
        let before = is.above rank s old.1 in let less = lower in omega (arith, before, less)
  ]

  above_all : (x : Bool) (rank : ℕ) (s : SentSeen)
      → sent_at rank (with_former x a.rank sent left) ≡ Some s → rank_after b.turns ≤ rank
  above_all true rank s there =
      elim (at_split a.rank (Some sent) left (insert_entry nat_cmp left a.rank sent) with_at rank
      (Some s) there) [
        | inl new ↦
            let same = new.0 in
            let before = is.current in
            let less = lower in
            omega (arith, same, before, less)
        | inr old ↦ above_left rank s old.1
      ]
  above_all false rank s there = above_left rank s there

  sorted : (x : Bool) → Ascend (with_former x a.rank sent left)
  sorted true =
      IsAscending-insert left a.rank sent
      (IsAscending-remove (is_at (nat_cmp t.rank)) a.earlier is.ascending)
  sorted false = IsAscending-remove (is_at (nat_cmp t.rank)) a.earlier is.ascending

  none_current : (x : Bool) → sent_at t.rank (with_former x a.rank sent left) ≡ None
  none_current true =
      at_other a.rank (Some sent) left (insert_entry nat_cmp left a.rank sent) with_at t.rank
      apart_ranks
      ∙ at_own t.rank None a.earlier left left_at
  none_current false = at_own t.rank None a.earlier left left_at

  pub ranked_turned : AreRanked most b
  ranked_turned = record {
    ascending = sorted is_kept;
    turns = omega (arith, one_more, low);
    current = lowest;
    apart = none_current is_kept;
    above = above_all is_kept;
  }
