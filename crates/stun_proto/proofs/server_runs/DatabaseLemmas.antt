-- Each call of a server whose users are in a data base is a call of the server that has them all: a
-- message is judged and signed for by the one user whom it means, and a step of forgetting removes
-- addresses one by one.
use Rattle.std.proofs.Common.{◌≡◌, ℕ, Bool, true, false, cond, List, [], ◌∷◌, ◌++◌, Option}
use Rattle.std.proofs.Common.{Some, None, refl, sym, subst, ap, ◌∙◌, Result, Ok, Err, map}
use Rattle.std.specs.Prelude.{◌&&◌, ◌||◌, not}
use Rattle.std.specs.Ordering.{eq_by_cmp, is_eq}
use Rattle.std.proofs.Common.{Ordering, Less, Equal, Greater}
use Rattle.std.specs.FinMap as fin
use Rattle.std.specs.List.{filter, list_any}
use Rattle.std.specs.Option.{is_some, option_and_then}
use Rattle.std.specs.declared.net.socket_addr.SocketAddr.{SocketAddr}
use Rattle.stun_base.specs.Address.{address_cmp}
use Rattle.stun_base.specs.MessageType.{class_in, is_response}
use Rattle.stun_base.specs.declared.wire.error.StunParseError.{StunParseError}
use Rattle.stun_base.specs.declared.wire.error.StunWriteError.{StunWriteError}
use Rattle.stun_base.proofs.Addresses.{address_exact, address_total}
use Rattle.stun_types.specs.Message.{refusal}
use Rattle.stun_judging.specs.Additions.{Page, added_all, after}
use Rattle.stun_auth.specs.Forgetting.{place_kept}
use Rattle.stun_auth.specs.ForgettingSteps.{is_looked_at, next_address, places_kept_where}
use Rattle.stun_judging.specs.Named.{just}
use Rattle.stun_auth.specs.Handed.{meant_user, with_users}
use Rattle.stun_auth.specs.Places.{PlacesSeen}
use Rattle.stun_judging.specs.Reading.{Reading, reading_of}
use Rattle.stun_judging.specs.Registered.{Registered, RegisteredUser, key_at, key_of, user_named}
use Rattle.stun_judging.specs.Verdict.{ClientSeen}
use Rattle.stun_auth.specs.Seen.{PlaceSeen}
use Rattle.stun_auth.specs.Server.{Sight}
use Rattle.stun_auth.specs.ServerSigning.{after_signing, attributes_for, protected_for}
use Rattle.stun_auth.specs.ServerSigning.{server_signed, signed_at, signed_under_key}
use Rattle.stun_auth.specs.Validation.{ServerSeen, after_validation, answer, client_at, sight}
use Rattle.stun_auth.specs.Validation as validation
use Rattle.stun_judging.proofs.MeantUser.{named_alone}
use Rattle.stun_proto.specs.DatabaseLoop.{AreMadeOf, IsMadeOf, IfAMessage, Made, Stored, StoredCall}
use Rattle.stun_proto.specs.DatabaseLoop.{Changed, ForgetWithin, LooksAtNoUser, Other, SignOf}
use Rattle.stun_proto.specs.DatabaseLoop.{ValidateOf, all_users, client_user, forgotten, whole}
use Rattle.stun_proto.specs.DatabaseLoop.{with_passed}
use Rattle.stun_proto.specs.Headline.{ValidatesEachCall}
use Rattle.stun_proto.specs.Isolation.{IsIsolated}
use Rattle.stun_proto.specs.Replies.{message_read}
use Rattle.stun_proto.specs.ServerLoop.{IfMessage, IsMade, IsSignedInSome, Told, reply_with}
use Rattle.stun_proto.specs.ServerLoop.{signed_or_refused}
use Rattle.stun_proto.specs.Serving.{Reply, NotAMessage, Done, after_call, after_calls}
use Rattle.stun_proto.specs.Serving.{replies, reply, reply_of_answer}
use Rattle.stun_proto.specs.Signing.{written_anew}
use Rattle.stun_proto.specs.declared.replay.call.ServerCall.{ServerCall}
use Rattle.stun_proto.specs.declared.replay.call.ServerCall.TheVariants as Call
use Rattle.stun_proto.proofs.server_runs.AcceptingLemmas.{validates_accepted}
use Rattle.stun_proto.proofs.server_runs.Digests.{digest_held}
use Rattle.stun_proto.proofs.server_runs.IsolationLemmas.{is_isolated}
use Rattle.stun_proto.proofs.server_runs.RepliesLemmas.{ValidatesByReplies, validates_by_replies}
use Rattle.stun_proto.proofs.server_runs.ServerLoopLemmas.{is_called}

-- what is made is a run of the server that has all users
abbrev IsRun : Stored → Made → Type 0
IsRun s made = (made.given ≡ replies (whole s) made.calls)
    × (whole made.after ≡ after_calls (whole s) made.calls)

-- one call, as the clauses of the whole server's own call say
run_of_one : (s : Stored) (call : ServerCall) (got : Told) (after : Stored)
    → IsMade (whole s) call got → whole after ≡ got.server
    → IsRun s (record { calls = call ∷ []; given = got.reply ∷ []; after = after })
run_of_one s call got after made left =
    let is = is_called (whole s) call got made in (ap (λ r. r ∷ []) is.0, left ∙ is.1)

-- ---- a message that is judged

-- what the laws say of the user whom a message means
pub record NamedIsEnough : Type 0 where
  pub answer : (s : ServerSeen) (from : SocketAddr) (now : ℕ) (words : List ℕ) (r : Reading)
      → validation.answer
      (sight (with_users s (just s.registered (meant_user s from r))) from) now words r
      ≡ validation.answer (sight s from) now words r
  pub state : (s : ServerSeen) (from : SocketAddr) (now : ℕ) (words : List ℕ) (r : Reading)
      → after_validation (with_users s (just s.registered (meant_user s from r))) from now words r
      ≡ with_users (after_validation s from now words r)
      (just s.registered (meant_user s from r))

module _ (enough : NamedIsEnough) (s : Stored) where
  -- ---- judging
  judged : (call : ServerCall) (o : Option StunParseError) (made : Made) (r : Reading)
      (from : SocketAddr) (now : ℕ) (words : List ℕ)
      → ((got : Told) → IfMessage (whole s) o got
      (got ≡ reply_with (reply_of_answer (answer (sight (whole s) from) now words r))
      (after_validation (whole s) from now words r)) → IsMade (whole s) call got)
      → IfAMessage s call o made
      (made ≡ record {
        calls = call ∷ [];
        given = reply_of_answer
            (answer (sight (with_passed s (meant_user (whole s) from r)) from) now words r) ∷ [];
        after = record s {
          server = with_users
              (after_validation (with_passed s (meant_user (whole s) from r)) from now words r)
              s.server.registered;
        };
      }) → IsRun s made
  judged call (Some error) made r from now words is h =
      subst (IsRun s) (sym h)
      (run_of_one s call (reply_with (NotAMessage error) (whole s)) s (is _ refl) refl)
  judged call None made r from now words is h =
      let given = enough.answer (whole s) from now words r in
      let state = enough.state (whole s) from now words r in
      let got = reply_with (reply_of_answer (answer (sight (whole s) from) now words r))
      (after_validation (whole s) from now words r) in
      let left : Stored = record s {
        server = with_users
            (after_validation (with_passed s (meant_user (whole s) from r)) from now words r)
            s.server.registered;
      } in
      subst (IsRun s) (sym h)
      (subst (λ a.
      IsRun s (record { calls = call ∷ []; given = reply_of_answer a ∷ []; after = left }))
      (sym given)
      (run_of_one s call got left (is got refl)
      (ap (λ (x : ServerSeen). record (whole s) { places = x.places }) state)))

  -- ---- signing
  same_key : (c : ClientSeen)
      → key_at (just (all_users s) (user_named (all_users s) c.name)) c.name c.algorithm
      ≡ key_at (all_users s) c.name c.algorithm
  same_key c =
      ap (option_and_then (λ (user : RegisteredUser). key_of (all_users s) user c.algorithm))
      (named_alone (all_users s) c.name)

  abbrev passed_for : Option ClientSeen → Registered
  passed_for k =
      just (all_users s) (option_and_then (λ (c : ClientSeen). user_named (all_users s) c.name) k)

  same_protection : (k : Option ClientSeen) (page : Page)
      → protected_for (passed_for k) k page ≡ protected_for (all_users s) k page
  same_protection None page = refl
  same_protection (Some c) page =
      ap (λ key. signed_under_key c.algorithm key page) (same_key c)

  same_after : (o : Result Page StunWriteError) (k : Option ClientSeen)
      → after o (protected_for (passed_for k) k) ≡ after o (protected_for (all_users s) k)
  same_after (Ok page) k = same_protection k page
  same_after (Err reason) k = refl

  same_attributes : (response : Bool) (nonce : List ℕ) (k j : Option ClientSeen)
      → attributes_for response (passed_for j) nonce k
      ≡ attributes_for response (all_users s) nonce k
  same_attributes response nonce None j = refl
  same_attributes response nonce (Some c) j = refl

  same_place : (response : Bool) (page : Page) (p : PlaceSeen)
      → signed_at response (passed_for p.client) (Some p) page
      ≡ signed_at response (all_users s) (Some p) page
  same_place response page p =
      ap (λ l. after (added_all l page) (protected_for (passed_for p.client) p.client))
      (same_attributes response p.nonce p.client p.client)
      ∙ same_after (added_all (attributes_for response (all_users s) p.nonce p.client) page)
      p.client

  same_signed : (response : Bool) (page : Page) (o : Option PlaceSeen)
      → signed_at response
      (passed_for (option_and_then (λ (p : PlaceSeen). p.client) o)) o page
      ≡ signed_at response (all_users s) o page
  same_signed response page None = refl
  same_signed response page (Some p) = same_place response page p

  -- the server that a signing leaves, with its own users or with all
  left_by : (to : SocketAddr) (response : Bool) (outcome : Result Page StunWriteError)
      → whole (record s {
        server = with_users
            (signed_or_refused (with_passed s (client_user s to))
            (after_signing (with_passed s (client_user s to)) to response) outcome).server
            s.server.registered;
      })
      ≡ (signed_or_refused (whole s) (after_signing (whole s) to response) outcome).server
  left_by to true (Ok page) = refl
  left_by to false (Ok page) = refl
  left_by to response (Err reason) = refl

  same_reply : (a b c d : ServerSeen) (outcome : Result Page StunWriteError)
      → (signed_or_refused a b outcome).reply ≡ (signed_or_refused c d outcome).reply
  same_reply a b c d (Ok page) = refl
  same_reply a b c d (Err reason) = refl

  signs : (call : ServerCall) (o : Option StunParseError) (made : Made) (to : SocketAddr)
      (response : Bool) (bytes : List ℕ)
      → ((got : Told) → IfMessage (whole s) o got
      ((written_anew bytes ≡ Ok bytes) × (signed : Result Page StunWriteError)
      × IsSignedInSome (sight (whole s) to) response bytes signed
      × (got ≡ signed_or_refused (whole s) (after_signing (whole s) to response) signed))
      → IsMade (whole s) call got)
      → IfAMessage s call o made
      ((written_anew bytes ≡ Ok bytes) × (signed : Result Page StunWriteError)
      × IsSignedInSome (sight (with_passed s (client_user s to)) to) response bytes signed
      × (made ≡ record {
        calls = call ∷ [];
        given = (signed_or_refused (with_passed s (client_user s to))
            (after_signing (with_passed s (client_user s to)) to response) signed).reply ∷ [];
        after = record s {
          server = with_users
              (signed_or_refused (with_passed s (client_user s to))
              (after_signing (with_passed s (client_user s to)) to response) signed).server
              s.server.registered;
        };
      })) → IsRun s made
  signs call (Some error) made to response bytes is h =
      subst (IsRun s) (sym h)
      (run_of_one s call (reply_with (NotAMessage error) (whole s)) s (is _ refl) refl)
  signs call None made to response bytes is (plain, signed, (room, signed_is, not_small), h) =
      let passed = with_passed s (client_user s to) in
      let got = signed_or_refused (whole s) (after_signing (whole s) to response) signed in
      let page : Page = record { bytes = bytes; room = room } in
      let same : signed ≡ server_signed (sight (whole s) to) response page =
      signed_is ∙ same_signed response page (fin.get s.server.places to) in
      let left : Stored = record s {
        server = with_users
            (signed_or_refused passed (after_signing passed to response) signed).server
            s.server.registered;
      } in
      subst (IsRun s) (sym h)
      (subst (λ r. IsRun s (record { calls = call ∷ []; given = r ∷ []; after = left }))
      (sym (same_reply passed (after_signing passed to response) (whole s)
      (after_signing (whole s) to response) signed))
      (run_of_one s call got left (is got (plain, signed, (room, same, not_small), refl))
      (left_by to response signed)))

  -- ---- every other call
  others : (call : ServerCall) (next : Told) → LooksAtNoUser call → IsMade s.server call next
      → IsRun s (record {
        calls = call ∷ [];
        given = next.reply ∷ [];
        after = record s { server = next.server };
      })
  others call next none made =
      let is = is_called s.server call next made in (
        ap (λ r. r ∷ []) (is.0 ∙ same_answer call none),
        ap (λ x. whole (record s { server = x })) is.1 ∙ same_left call none,
      )
    where
      same_answer : (call : ServerCall) → LooksAtNoUser call
          → reply s.server call ≡ reply (whole s) call
      same_answer (Call.Validate from now message words) none = absurd none
      same_answer (Call.Sign to message) none = absurd none
      same_answer (Call.AddUser name password) none = absurd none
      same_answer (Call.RemoveUser name) none = absurd none
      same_answer (Call.AddIntegrity algorithm) none = refl
      same_answer (Call.SetIntegrity algorithm) none = refl
      same_answer (Call.SetAnonymous feature) none = refl
      same_answer (Call.RemoveClient address) none = refl
      same_answer (Call.SetExpiry expiry) none = refl
      same_answer (Call.ForgetExpired now) none = refl
      same_answer (Call.Forget address) none = refl

      same_left : (call : ServerCall) → LooksAtNoUser call
          → whole (record s { server = after_call s.server call }) ≡ after_call (whole s) call
      same_left (Call.Validate from now message words) none = absurd none
      same_left (Call.Sign to message) none = absurd none
      same_left (Call.AddUser name password) none = absurd none
      same_left (Call.RemoveUser name) none = absurd none
      same_left (Call.AddIntegrity algorithm) none = refl
      same_left (Call.SetIntegrity algorithm) none = refl
      same_left (Call.SetAnonymous feature) none = refl
      same_left (Call.RemoveClient address) none = refl
      same_left (Call.SetExpiry expiry) none = refl
      same_left (Call.ForgetExpired now) none = refl
      same_left (Call.Forget address) none = refl

-- ---- forgetting, address by address
abbrev removed : PlacesSeen → List SocketAddr → PlacesSeen
removed places [] = places
removed places (a ∷ more) = removed (fin.remove places a) more

abbrev is_same : SocketAddr → SocketAddr → Bool
is_same q a = eq_by_cmp address_cmp q a

twice : {A : Type 0} (b c : Bool) (x : Option A)
    → cond c None (cond b None x) ≡ cond (b || c) None x
twice true true x = refl
twice true false x = refl
twice false true x = refl
twice false false x = refl

get-removed : (places : PlacesSeen) (gone : List SocketAddr) (q : SocketAddr)
    → fin.get (removed places gone) q ≡ cond (list_any (is_same q) gone) None (fin.get places q)
get-removed places [] q = refl
get-removed places (a ∷ more) q =
    get-removed (fin.remove places a) more q
    ∙ ap (cond (list_any (is_same q) more) None) (fin.get-remove address_total places a q)
    ∙ twice (is_same q a) (list_any (is_same q) more) (fin.get places q)

tied : (q x : SocketAddr) → is_same q x ≡ true → q ≡ x
tied q x h = by (address_cmp q x) refl h
  where
    by : (o : Ordering) → address_cmp q x ≡ o → is_eq o ≡ true → q ≡ x
    by Less e h = cc
    by Equal e h = address_exact q x e
    by Greater e h = cc

-- whether an address is among those of a list that are dropped
any-filter : (drop : SocketAddr → Bool) (q : SocketAddr) (xs : List SocketAddr)
    → list_any (is_same q) (filter drop xs) ≡ (drop q && list_any (is_same q) xs)
any-filter drop q [] = none (drop q)
  where
    none : (b : Bool) → false ≡ (b && false)
    none true = refl
    none false = refl
any-filter drop q (x ∷ xs) = step (any-filter drop q xs) (drop x) (is_same q x) refl refl
  where
    step : list_any (is_same q) (filter drop xs) ≡ (drop q && list_any (is_same q) xs)
        → (d e : Bool) → drop x ≡ d → is_same q x ≡ e
        → list_any (is_same q) (cond d (x ∷ filter drop xs) (filter drop xs))
        ≡ (drop q && (is_same q x || list_any (is_same q) xs))
    step rest true true dropped same =
        let own : drop q ≡ true = ap drop (tied q x same) ∙ dropped in
        ap (λ b. b || list_any (is_same q) (filter drop xs)) same
        ∙ sym (ap (λ b. b && (is_same q x || list_any (is_same q) xs)) own
        ∙ ap (λ b. b || list_any (is_same q) xs) same)
    step rest true false dropped same =
        ap (λ b. b || list_any (is_same q) (filter drop xs)) same ∙ rest
        ∙ sym (ap (λ b. drop q && (b || list_any (is_same q) xs)) same)
    step rest false true dropped same =
        let own : drop q ≡ false = ap drop (tied q x same) ∙ dropped in
        rest ∙ ap (λ b. b && list_any (is_same q) xs) own
        ∙ sym (ap (λ b. b && (is_same q x || list_any (is_same q) xs)) own)
    step rest false false dropped same =
        rest ∙ sym (ap (λ b. drop q && (b || list_any (is_same q) xs)) same)

gone_or_kept : {A : Type 0} (chosen kept : Bool) (o : Option A)
    → cond ((chosen && not kept) && is_some o) None o ≡ cond (not chosen || kept) o None
gone_or_kept true true (Some x) = refl
gone_or_kept true true None = refl
gone_or_kept true false (Some x) = refl
gone_or_kept true false None = refl
gone_or_kept false true (Some x) = refl
gone_or_kept false true None = refl
gone_or_kept false false (Some x) = refl
gone_or_kept false false None = refl

module _ (s : ServerSeen) (now : ℕ) (from : Option SocketAddr) (most : ℕ) where
  abbrev chosen : SocketAddr → Bool
  chosen a = is_looked_at from (next_address s from most) a

  abbrev stays : SocketAddr → Bool
  stays a = is_some (place_kept now (fin.get s.places a))

  abbrev gone : List SocketAddr
  gone = forgotten s now from most

  removed_so : removed s.places gone ≡ places_kept_where chosen now s.places
  removed_so =
      fin.same_map address_total address_exact (removed s.places gone)
      (places_kept_where chosen now s.places)
      (λ q.
      get-removed s.places gone q
      ∙ ap (λ b. cond b None (fin.get s.places q))
      (any-filter (λ a. chosen a && not (stays a)) q (fin.keys s.places)
      ∙ ap (λ b. (chosen q && not (stays q)) && b) (sym (fin.contains_key-keys s.places q)))
      ∙ gone_or_kept (chosen q) (stays q) (fin.get s.places q)
      ∙ sym (fin.get-retain_keys s.places (λ a. not (chosen a) || stays a) q
      (λ x same. ap (λ a. not (chosen a) || stays a) (sym (address_exact q x same)))))

forgets : (s : ServerSeen) (gone : List SocketAddr)
    → (map (λ a. Done) gone ≡ replies s (map Call.Forget gone))
    × (record s { places = removed s.places gone } ≡ after_calls s (map Call.Forget gone))
forgets s [] = (refl, refl)
forgets s (a ∷ more) =
    let rest = forgets (after_call s (Call.Forget a)) more in
    (ap (λ l. Done ∷ l) rest.0, rest.1)

-- ---- one call, and all
module _ (enough : NamedIsEnough) where
  is_run : (s : Stored) (call : StoredCall) (made : Made) → IsMadeOf s call made → IsRun s made
  is_run s (ValidateOf from now message words) made h =
      judged enough s (Call.Validate from now message words) (refusal message.items) made
      (reading_of message.items) from now words (λ got is. is) h
  is_run s (SignOf to message) made h =
      signs enough s (Call.Sign to message) (refusal message.items) made to
      (is_response (class_in message.items)) message.items (λ got is. is) h
  is_run s (ForgetWithin now from most) made h =
      let is = forgets (whole s) (forgotten s.server now from most) in
      subst (IsRun s) (sym h) (
        is.0,
        ap (λ places. record (whole s) { places = places })
            (sym (removed_so s.server now from most))
            ∙ is.1,
      )
  is_run s (Changed secrets calls) made (changed, h) =
      subst (IsRun s) (sym h) (refl, sym changed)
  is_run s (Other call) made (none, next, is, h) =
      subst (IsRun s) (sym h) (others enough s call next none is)

replies-append : (s : ServerSeen) (calls more : List ServerCall)
    → replies s calls ++ replies (after_calls s calls) more ≡ replies s (calls ++ more)
replies-append s [] more = refl
replies-append s (call ∷ calls) more =
    ap (λ l. reply s call ∷ l) (replies-append (after_call s call) calls more)

after-append : (s : ServerSeen) (calls more : List ServerCall)
    → after_calls (after_calls s calls) more ≡ after_calls s (calls ++ more)
after-append s [] more = refl
after-append s (call ∷ calls) more = after-append (after_call s call) calls more

module _ (enough : NamedIsEnough) where
  are_served : (start last : Stored) (made : List StoredCall) (calls : List ServerCall)
      (given : List Reply) → AreMadeOf start made calls given last
      → (given ≡ replies (whole start) calls) × (whole last ≡ after_calls (whole start) calls)
  are_served start last [] calls given (no_calls, no_replies, same) = (
    no_replies ∙ sym (ap (replies (whole start)) no_calls),
    ap whole same ∙ sym (ap (after_calls (whole start)) no_calls),
  )
  are_served start last (call ∷ more) calls given
      (made, later, rest, calls_are, given_is, is, then) =
      let one = is_run enough start call made is in
      let tail = are_served made.after last more later rest then in (
        given_is ∙ ap (λ l. l ++ rest) one.0
            ∙ ap (λ l. replies (whole start) made.calls ++ l)
            (tail.0 ∙ ap (λ s. replies s later) one.1)
            ∙ replies-append (whole start) made.calls later
            ∙ sym (ap (replies (whole start)) calls_are),
        tail.1 ∙ ap (λ s. after_calls s later) one.1
            ∙ after-append (whole start) made.calls later
            ∙ sym (ap (after_calls (whole start)) calls_are),
      )

  pub stored_calls_are_served :
      ((s : Sight) (now : ℕ) (words : List ℕ) (r : Reading)
      → validation.ValidatesAccepted s now words r (answer s now words r))
      → (start last : Stored) (made : List StoredCall) (calls : List ServerCall)
      (given : List Reply) → AreMadeOf start made calls given last
      → (given ≡ replies (whole start) calls) × (whole last ≡ after_calls (whole start) calls)
      × ValidatesEachCall message_read replies (whole start) calls given
  stored_calls_are_served law start last made calls given is =
      let served = are_served start last made calls given is in (
        served.0,
        served.1,
        record {
          replied = served.0;
          validated = subst (ValidatesByReplies message_read (whole start) calls) (sym served.0)
              (validates_by_replies (whole start) calls
              (validates_accepted law (whole start) calls));
          digest = digest_held;
          isolated = subst (IsIsolated (whole start) calls) (sym served.0)
              (is_isolated (whole start) calls);
        },
      )
