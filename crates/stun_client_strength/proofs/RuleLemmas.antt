-- For every sequence of calls: the challenges of all messages are by the client's own rule.
use Rattle.std.proofs.Common.{◌≡◌, ℕ, Bool, true, false, List, []}
use Rattle.std.proofs.Common.{◌∷◌, Option, Some, None, ap, cond, length, refl, subst}
use Rattle.std.proofs.Common.{sym}
use Rattle.std.specs.BTreeMap.{insert_entry, is_at}
use Rattle.std.specs.Bool.{⊤}
use Rattle.std.specs.List.{AllByRecursion}
use Rattle.std.specs.Map.{remove_entry}
use Rattle.std.specs.Option.{IfSome, is_some, option_and_then, option_map, option_map_or}
use Rattle.std.specs.Ordering.{match_ordering, nat_cmp}
use Rattle.std.specs.Prelude.{◌&&◌, find, nat_le, IsUtf8, ◌==◌}
use Rattle.std.specs.Str.{is_utf8}
use Rattle.std.specs.declared.cmp.Ordering.{Ordering}
use Rattle.std.specs.declared.cmp.Ordering.TheVariants.{Less, Equal, Greater}
use Rattle.std.proofs.lemmas.Str.{IsUtf8-from_is_utf8}
use Rattle.sha2.proofs.Facts256.{length-sha256}
use Rattle.stun_base.specs.Attributes.{NONCE, REALM}
use Rattle.stun_base.specs.Credentials.{NameAndPassword}
use Rattle.stun_types.specs.Integrity.{first_of}
use Rattle.stun_types.specs.Limits.{TEXT_LIMIT}
use Rattle.stun_types.specs.Text.{short_text, text_of}
use Rattle.stun_types.specs.Visible.{visible}
use Rattle.stun_types.specs.Walk.{Member}
use Rattle.stun_judging.specs.Naming.{Naming, naming_of}
use Rattle.stun_judging.specs.Signed.{IsText, hashed_name, plain_name}
use Rattle.stun_client.specs.Challenge.{Challenge, added_under}
use Rattle.stun_client.specs.Challenges.{Answered, IsOfMessage, challenge_of, is_one}
use Rattle.stun_client.specs.Standing.{answering}
use Rattle.stun_client.specs.Judging.{Identity, IsAnsweredAnew, IsSentAgain, judged, long_term}
use Rattle.stun_client.specs.Rule.{IsByRule, is_hashed}
use Rattle.stun_client.specs.Standing.{StandingSeen, after_answer, after_success, after_timeout}
use Rattle.stun_client.specs.Standing.{confirmed, gives_way, is_standing}
use Rattle.stun_client.specs.Standing.{is_stronger_than}
use Rattle.stun_client.specs.declared.preferences.Preferences.{Preferences}
use Rattle.stun_client_requests.specs.declared.requests.Request.{Request}
use Rattle.stun_client_calls.specs.Clients.{changed}
use Rattle.stun_client_calls.specs.Deciding.{Place, turns}
use Rattle.stun_client_calls.specs.Laws.{Judge, decision_on}
use Rattle.stun_client_calls.specs.Messages.{AllSent, AskedSeen, SentSeen, challenge_for}
use Rattle.stun_client_calls.specs.Messages.{leaves_doubt}
use Rattle.stun_client_calls.specs.Messages.{with_former}
use Rattle.stun_client_calls.specs.Messages.{without_message}
use Rattle.stun_client_calls.specs.Options.{Options, challenge_by}
use Rattle.stun_client_calls.specs.declared.asked.Change.{Change}
use Rattle.stun_client_calls.specs.declared.asked.Change.TheVariants.{Noted, Refused, SentOut}
use Rattle.stun_client_calls.specs.declared.turning.Why.{Why}
use Rattle.stun_client_runs.specs.Kept.{sent_at}
use Rattle.stun_client_strength.proofs.HeldLemmas.{AreRules, IsSignedAs, current_is, earlier_is}
use Rattle.stun_client_strength.proofs.TurnLemmas.{IsTurn, answers, doubts, returns, turn_of}
use Rattle.stun_client_strength.proofs.UnsignedLemmas.{StaysUnsigned, changed_unsigned}
use Rattle.stun_client_strength.proofs.UnsignedLemmas.{starts_unsigned, turned_unsigned}

-- ---- earlier messages

-- what holds of the challenge of each message in a list
abbrev pub EachSent : (Answered → Type 0) → AllSent → Type 0
EachSent F es = AllByRecursion (λ (e : ℕ × SentSeen). IfSome e.1.signed_for F) es

sent_found : (F : Answered → Type 0) (p : ℕ × SentSeen → Bool) (es : AllSent) (e : ℕ × SentSeen)
    → EachSent F es → find p es ≡ Some e → IfSome e.1.signed_for F
sent_found F p [] e each is = cc
sent_found F p (x ∷ es) e each is = by (p x) is (sent_found F p es e each.1)
  where
    by : (b : Bool) → cond b (Some x) (find p es) ≡ Some e
        → (find p es ≡ Some e → IfSome e.1.signed_for F) → IfSome e.1.signed_for F
    by true is rest =
        let same : x ≡ e = cc in
        subst (λ (y : ℕ × SentSeen). IfSome y.1.signed_for F) same each.0
    by false is rest = rest is

pub sent_there : (F : Answered → Type 0) (rank : ℕ) (s : SentSeen) (es : AllSent) → EachSent F es
    → sent_at rank es ≡ Some s → IfSome s.signed_for F
sent_there F rank s [] each is = cc
sent_there F rank s (x ∷ es) each is =
    by (is_at (nat_cmp rank) x.0) is (sent_there F rank s es each.1)
  where
    by : (b : Bool) → cond b (Some x.1) (sent_at rank es) ≡ Some s
        → (sent_at rank es ≡ Some s → IfSome s.signed_for F) → IfSome s.signed_for F
    by true is rest =
        let same : x.1 ≡ s = cc in
        subst (λ (y : SentSeen). IfSome y.signed_for F) same each.0
    by false is rest = rest is

sent_left : (F : Answered → Type 0) (p : ℕ → Bool) (es : AllSent) → EachSent F es
    → EachSent F (remove_entry p es)
sent_left F p [] each = each
sent_left F p (x ∷ es) each = by (p x.0) (sent_left F p es each.1)
  where
    by : (b : Bool) → EachSent F (remove_entry p es)
        → EachSent F (cond b es (x ∷ remove_entry p es))
    by true rest = each.1
    by false rest = (each.0, rest)

sent_put : (F : Answered → Type 0) (rank : ℕ) (s : SentSeen) (es : AllSent) → EachSent F es
    → IfSome s.signed_for F → EachSent F (insert_entry nat_cmp es rank s)
sent_put F rank s [] each own = (own, tt)
sent_put F rank s (x ∷ es) each own = by (nat_cmp rank x.0) (sent_put F rank s es each.1 own)
  where
    by : (r : Ordering) → EachSent F (insert_entry nat_cmp es rank s)
        → EachSent F (match_ordering r ((rank, s) ∷ x ∷ es) ((x.0, s) ∷ es)
        (x ∷ insert_entry nat_cmp es rank s))
    by Less rest = (own, each)
    by Equal rest = (own, each.1)
    by Greater rest = (each.0, rest)

sent_former : (F : Answered → Type 0) (is_kept : Bool) (rank : ℕ) (s : SentSeen) (es : AllSent)
    → EachSent F es → IfSome s.signed_for F → EachSent F (with_former is_kept rank s es)
sent_former F true rank s es each own = sent_put F rank s es each own
sent_former F false rank s es each own = each

-- ---- by the client's own rule

-- a text that is read is UTF-8
text_read : (kind : ℕ) (bytes text : List ℕ)
    → option_and_then (λ (m : Member). text_of kind TEXT_LIMIT m.1) (first_of kind (visible bytes))
    ≡ Some text
    → IsUtf8 text
text_read kind bytes text = by (first_of kind (visible bytes))
  where
    short : (b c : Bool) (value : List ℕ) → is_utf8 value ≡ b
        → cond (b && c) (Some value) None ≡ Some text → IsUtf8 text
    short true true value utf8 is =
        let same : value ≡ text = cc in
        subst IsUtf8 same (IsUtf8-from_is_utf8 value utf8)
    short true false value utf8 is = cc
    short false c value utf8 is = cc

    of_kind : (b : Bool) (value : List ℕ) → cond b (short_text TEXT_LIMIT value) None ≡ Some text
        → IsUtf8 text
    of_kind true value is = short (is_utf8 value) (nat_le (length value) TEXT_LIMIT) value refl is
    of_kind false value is = cc

    by : (o : Option Member)
        → option_and_then (λ (m : Member). text_of kind TEXT_LIMIT m.1) o ≡ Some text → IsUtf8 text
    by None is = cc
    by (Some m) is = of_kind (m.1.kind == kind) m.1.value is

name_text : (hashes : Bool) (name realm : List ℕ) → IsUtf8 name
    → IfSome (plain_name (naming_of hashes name realm)) IsUtf8
name_text true name realm text = tt
name_text false name realm text = text

hash_long : (hashes : Bool) (name realm : List ℕ)
    → IfSome (hashed_name (naming_of hashes name realm)) (λ hash. length hash ≡ 32)
hash_long true name realm = length-sha256 _
hash_long false name realm = tt

-- a challenge is by the rule, and its texts are UTF-8
pub record IsFine (p : Preferences) (who : NameAndPassword) (x : Answered) : Type 0 where
  pub by_rule : IsByRule p who x.challenge
  pub text : IsText (added_under true x.challenge)

-- each standing challenge is
pub record AreFine (p : Preferences) (who : NameAndPassword) (s : StandingSeen) : Type 0 where
  pub current : IfSome s.current (IsFine p who)
  pub validated : IfSome s.validated (IsFine p who)

-- the challenge of each message of a request is, which has none if it is not to be signed
pub record IsFineOf (p : Preferences) (who : NameAndPassword) (a : AskedSeen) : Type 0 where
  pub current : IfSome a.signed_for (IsFine p who)
  pub earlier : EachSent (IsFine p who) a.earlier
  pub unsigned : StaysUnsigned a

abbrev pub IsFineFor : Preferences → NameAndPassword → ℕ → Request AskedSeen → Type 0
IsFineFor p who id q = IsFineOf p who q.datum

-- whatever times out
abbrev pub always : StandingSeen → AskedSeen → Type 0
always s a = ⊤

-- what the laws of a client say of a challenge that a request is sent again for
pub record ChallengeLaws : Type 0 where
  pub anew : (required : Bool) (who : NameAndPassword) (p : Preferences) (accepts : Bool)
      (standing : StandingSeen) (before : Option Answered) (bytes : List ℕ) (x : Answered)
      → IsSentAgain (judged required true (long_term who p accepts) standing before bytes) x
      → IsAnsweredAnew p who standing before bytes x
  pub by_rule : (p : Preferences) (who : NameAndPassword) (before : Option Challenge)
      (bytes : List ℕ) (c : Challenge) → challenge_of p who before bytes ≡ Some c → IsByRule p who c
  pub of_message : (p : Preferences) (who : NameAndPassword) (before : Option Challenge)
      (bytes : List ℕ) (c : Challenge) → challenge_of p who before bytes ≡ Some c
      → IsOfMessage before bytes c

mapped : (p : Preferences) (o : Option Challenge) (x : Answered)
    → option_map (λ c. record { preferences = p; challenge = c }) o ≡ Some x → o ≡ Some x.challenge
mapped p None x is = cc
mapped p (Some c) x is =
    ap (λ (o : Option Answered). Some (option_map_or (λ (y : Answered). y.challenge) o c)) is

module _ (laws : ChallengeLaws) (p : Preferences) (who : NameAndPassword) (accepts : Bool)
    (name : IsUtf8 who.username) where
  fine_again : (s : StandingSeen) (required : Bool) (before : Option Answered) (bytes : List ℕ)
      (x : Answered) → IsSentAgain (judged required true (long_term who p accepts) s before bytes) x
      → IsFine p who x
  fine_again s required before bytes x sent =
      let challenge = x.challenge in
      let anew = laws.anew required who p accepts s before bytes x sent in
      let earlier = option_map (λ (b : Answered). b.challenge) before in
      let read = mapped p (challenge_of p who earlier bytes) x anew.challenge in
      let rule = laws.by_rule p who earlier bytes challenge read in
      let of = laws.of_message p who earlier bytes challenge read in
      let hashes = is_hashed p challenge.nonce in
      record {
        by_rule = rule;
        text = record {
          nonce = text_read NONCE bytes challenge.nonce of.nonce;
          realm = text_read REALM bytes challenge.realm of.realm;
          username = subst (λ (n : Naming). IfSome (plain_name n) IsUtf8) (sym rule.naming)
              (name_text hashes who.username challenge.realm name);
          userhash = subst (λ (n : Naming). IfSome (hashed_name n) (λ hash. length hash ≡ 32))
              (sym rule.naming) (hash_long hashes who.username challenge.realm);
        };
      }

  confirmed_fine : (s : StandingSeen) → AreFine p who s → IfSome (confirmed s) (IsFine p who)
  confirmed_fine s fine = by s.is_validated
    where
      by : (b : Bool) → IfSome (cond b s.current s.validated) (IsFine p who)
      by true = fine.current
      by false = fine.validated

  answer_fine : (s : StandingSeen) (x : Answered) → IsFine p who x → AreFine p who s
      → AreFine p who (after_answer s x)
  answer_fine s x its fine = by (is_one (Some x) s.current)
    where
      by : (b : Bool) → AreFine p who (cond b s
          (record { current = Some x; is_validated = false; validated = confirmed s }))
      by true = fine
      by false = record { current = its; validated = confirmed_fine s fine }

  success_fine : (s : StandingSeen) (o : Option Answered) → IfSome o (IsFine p who)
      → AreFine p who s → AreFine p who (after_success s o)
  success_fine s None its fine = fine
  success_fine s (Some d) its fine =
      by (is_standing s (Some d)) (is_stronger_than d (confirmed s)) (gives_way s.current d)
    where
      by : (b v w : Bool)
          → AreFine p who (cond b (record s { is_validated = true; validated = None })
          (cond v (cond w (record { current = Some d; is_validated = true; validated = None })
          (record { current = s.current; is_validated = false; validated = Some d })) s))
      by true v w = record { current = fine.current; validated = tt }
      by false true true = record { current = its; validated = tt }
      by false true false = record { current = fine.current; validated = its }
      by false false w = fine

  timeout_fine : (s : StandingSeen) (o : Option Answered) → AreFine p who s
      → AreFine p who (after_timeout s o)
  timeout_fine s o fine = by (is_standing s o)
    where
      by : (b : Bool) → AreFine p who (cond b
          (record {
            current = s.validated;
            is_validated = is_some s.validated;
            validated = None;
          }) s)
      by true = record { current = fine.validated; validated = tt }
      by false = fine

  -- the message that becomes the current one
  turn_fine : (j : Judge) (now : ℕ) (a : AskedSeen) (bytes : List ℕ) (place : Option Place)
      (why : Why) (d : Option Answered) → j.identity ≡ long_term who p accepts
      → IsFineOf p who a → decision_on j true now a a.signed_for bytes ≡ turns why place d
      → IfSome d (IsFine p who)
  turn_fine j now a bytes place why d same fine is =
      by (turn_of j.limits j.standing now a
      (judged j.required true j.identity j.standing a.signed_for bytes) why place d is)
    where
      by : IsTurn a (judged j.required true j.identity j.standing a.signed_for bytes) why d
          → IfSome d (IsFine p who)
      by (answers x sent so) =
          subst (λ (o : Option Answered). IfSome o (IsFine p who)) (sym so)
          (fine_again j.standing j.required a.signed_for bytes x
          (subst (λ (i : Identity).
          IsSentAgain (judged j.required true i j.standing a.signed_for bytes) x) same sent))
      by (doubts doubt so) = subst (λ (o : Option Answered). IfSome o (IsFine p who)) (sym so) tt
      by (returns doubt e q found so) =
          subst (λ (o : Option Answered). IfSome o (IsFine p who)) so
          (sent_found (IsFine p who) q a.earlier e fine.earlier found)

  answering_fine : (s : StandingSeen) (d : Option Answered) → IfSome d (IsFine p who)
      → AreFine p who s → AreFine p who (answering s d)
  answering_fine s None its fine = fine
  answering_fine s (Some x) its fine = answer_fine s x its fine

  signed_fine : (a : AskedSeen) (o : Option Answered) → IsFineOf p who a → IsSignedAs a o
      → IfSome o (IsFine p who)
  signed_fine a o fine (current_is so) =
      subst (λ (x : Option Answered). IfSome x (IsFine p who)) so fine.current
  signed_fine a o fine (earlier_is e q found so) =
      subst (λ (x : Option Answered). IfSome x (IsFine p who)) so
      (sent_found (IsFine p who) q a.earlier e fine.earlier found)

  changed_fine : (change : Change) (a : AskedSeen) → IsFineOf p who a
      → IsFineOf p who (changed change a)
  changed_fine (SentOut now) a fine = record {
    current = fine.current;
    earlier = fine.earlier;
    unsigned = changed_unsigned (SentOut now) a fine.unsigned;
  }
  changed_fine (Noted why code) a fine = record {
    current = fine.current;
    earlier = fine.earlier;
    unsigned = changed_unsigned (Noted why code) a fine.unsigned;
  }
  changed_fine (Refused code) a fine = record {
    current = fine.current;
    earlier = fine.earlier;
    unsigned = changed_unsigned (Refused code) a fine.unsigned;
  }

  -- the challenge that a request is signed for which starts
  starting_fine : (options : Option Options) (o : Option Answered) → IfSome o (IsFine p who)
      → IfSome (challenge_by options o) (IsFine p who)
  starting_fine None o its = its
  starting_fine (Some x) o its = by x.is_signed
    where
      by : (b : Bool) → IfSome (cond b o None) (IsFine p who)
      by true = its
      by false = tt

  pub fine_rules : AreRules (long_term who p accepts) 0 (AreFine p who) (IsFineFor p who) always
  fine_rules = record {
    starts = λ s id number method until body options low fine. record {
      current = starting_fine options s.current fine.current;
      earlier = tt;
      unsigned = starts_unsigned method until body options s.current;
    };
    changes = λ id number change a fine. changed_fine change a fine;
    turns_so = λ j now id new number former a bytes place t is_kept on same fine its is. record {
      current = turn_fine j now a bytes place t.why t.signed_for same its is;
      earlier = sent_former (IsFine p who) is_kept a.rank
          (record { id = former; signed_for = a.signed_for; is_doubted = leaves_doubt t.why })
          (without_message t.rank a.earlier)
          (sent_left (IsFine p who) (is_at (nat_cmp t.rank)) a.earlier its.earlier) its.current;
      unsigned = turned_unsigned is_kept former t a on;
    };
    answers = λ j now id number a bytes place why d signed same fine its is.
        answering_fine j.standing d (turn_fine j now a bytes place why d same its is) fine;
    succeeds = λ s id number a o fine its signed.
        success_fine s o (signed_fine a o its signed) fine;
    lapses = λ s a let_so fine. timeout_fine s (challenge_for s.current a) fine;
  }
