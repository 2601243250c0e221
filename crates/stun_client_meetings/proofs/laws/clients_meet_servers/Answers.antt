-- Each exchange is a law of what a client and a server make of each other's messages.
use Rattle.std.proofs.Common.{◌≡◌, ◌∙◌, ◌<◌, ◌≤◌, ◌^◌, ℕ, List, Option, Some, None, Ok, true}
use Rattle.std.proofs.Common.{ap}
use Rattle.std.proofs.Common.{arith, length, map, refl, subst, sym}
use Rattle.std.specs.declared.net.socket_addr.SocketAddr.{SocketAddr}
use Rattle.stun_base.specs.Header.{transaction_id_field}
use Rattle.stun_base.specs.declared.keys.algorithm.IntegrityAlgorithm.{IntegrityAlgorithm}
use Rattle.stun_base.specs.declared.wire.message_type.MessageClass.TheVariants.{Request}
use Rattle.stun_types.specs.Limits.{TEXT_LIMIT}
use Rattle.stun_judging.specs.Nonces.{letter}
use Rattle.stun_judging.specs.Reading.{reading_of}
use Rattle.stun_extra.specs.CanonicalAddress.{is_same_address}
use Rattle.stun_client.specs.Challenges.{Answered, is_one}
use Rattle.stun_client.specs.Ids.{id_of}
use Rattle.stun_client.specs.Judging.{Identity, believed, judged, long_term, sent_for}
use Rattle.stun_client.specs.Answers.{is_answer}
use Rattle.stun_client_endpoint.specs.Bodies.{Body}
use Rattle.stun_client_endpoint.specs.Written.{Form, request_bytes}
use Rattle.stun_client_endpoint.proofs.WrittenLemmas.{id_fits}
use Rattle.stun_client_requests.specs.Numbers.{id_at}
use Rattle.stun_client_requests.specs.OneTable.{IsOneTable}
use Rattle.stun_client_requests.specs.Requests.{datum_of}
use Rattle.stun_client_calls.specs.Clients.{Client, started}
use Rattle.stun_client_calls.specs.Messages.{AskedSeen}
use Rattle.stun_client_calls.specs.Options.{Options, address_by, identity_by}
use Rattle.stun_client_calls.specs.Runs.{Calls, Event, next_number}
use Rattle.stun_client_runs.specs.Sent.{IsSentAs, asking}
use Rattle.stun_client_runs.proofs.KeptLemmas.{started_is}
use Rattle.stun_judging.specs.Registered.{Registered}
use Rattle.stun_endpoint.specs.Nonces.{current_nonce, epoch_of, words_of}
use Rattle.stun_endpoint.specs.Received.{challenge_answer}
use Rattle.stun_endpoint.specs.Settings.{Settings, registered_of}
use Rattle.stun_endpoint.proofs.RealmLemmas.{own_realm, received_of_own}
use Rattle.stun_endpoint.specs.declared.received.Refusal.TheVariants.{StaleNonce, Unauthenticated}
use Rattle.stun_exchanges.specs.Agreement.{IsSignedAnswer}
use Rattle.stun_exchanges.specs.Exchange.{realm_knowing}
use Rattle.stun_exchanges.proofs.AgreedLemmas.{accepted_again}
use Rattle.stun_sessions.specs.Sessions.{client_named}
use Rattle.stun_sessions.proofs.SessionLemmas.{is_another}
use Rattle.stun_requests.specs.Fitting.{IsBuiltBody, IsWritten}
use Rattle.stun_requests.specs.ReadBack.{IsReadAsMade, added_to}
use Rattle.stun_requests.proofs.ServedLemmas.{texts_of, undropped}
use Rattle.stun_client_meetings.specs.Meeting.{CanMeet, ClientSide, IsClientOf, IsMeetable}
use Rattle.stun_client_meetings.specs.Meeting.{IsSignedFor, challenge_at}
use Rattle.stun_client_meetings.proofs.FittingLemmas.{is_printed, short_challenge, sixteen}
use Rattle.stun_client_meetings.proofs.FittingLemmas.{software_fits}
use Rattle.stun_client_meetings.proofs.MeetingLemmas.{ends_so, sends_again}
use Rattle.stun_client_meetings.proofs.OptionLemmas.{hears_by, signs_by}
use Rattle.stun_client_meetings.proofs.SideLemmas.{Parts, since_start}
use Rattle.stun_client_meetings.proofs.laws.clients_meet_servers.Goals as goal

-- what is known of a request whose current message has these bytes, signed for a challenge, or for
-- none
record IsKnown (side : ClientSide) (c later : Client) (method : ℕ) (body : Body)
    (options : Option Options) (bytes : List ℕ) (signed_for : Option Answered) (a : AskedSeen)
    : Type 0 where
  id : ℕ
  id_number : ℕ
  derived : id ≡ id_of c.seed id_number
  named : id_at (next_number c) later.requests.numbers ≡ Some id
  id_is : transaction_id_field bytes ≡ id
  method_is : a.method ≡ method
  body_is : a.body ≡ body
  options_are : a.options ≡ options
  written : request_bytes side.form
      (long_term side.who side.preferences side.accepts_unsigned) signed_for method id body ≡ Ok
      bytes

some_bytes : (x y : List ℕ) → Some x ≡ Some y → x ≡ y
some_bytes x y is = cc

known_of : (side : ClientSide) (c later : Client) (method : ℕ) (body : Body)
    (options : Option Options) (bytes : List ℕ) (signed_for : Option Answered) → IsClientOf side c
    → IsMeetable side options → (signed : IsSignedFor (next_number c) signed_for later bytes)
    → IsSentAs (asking c method body options) signed.asked later
    → IsKnown side c later method body options bytes signed_for signed.asked
known_of side c later method body options bytes signed_for of meetable signed is = record {
  id = is.id;
  id_number = is.id_number;
  derived = is.derived;
  named = is.current;
  id_is = ap transaction_id_field (sym same) ∙ is.named;
  method_is = is.method;
  body_is = is.body;
  options_are = is.options;
  written = ap (λ (f : Form). request_bytes f (long_term side.who side.preferences
      side.accepts_unsigned) signed_for method is.id body) (sym of.form_is)
      ∙ ap (λ (i : Identity). request_bytes c.form i signed_for method is.id body) (sym of.identity)
      ∙ ap (λ (o : Option Answered). request_bytes c.form c.identity o method is.id body)
      (sym signed.signed)
      ∙ ap (λ (i : Identity). request_bytes c.form i signed.asked.signed_for method is.id body)
      (sym (signs_by side options c.identity meetable))
      ∙ subst (λ (x : List ℕ). request_bytes c.form (identity_by options c.identity)
      signed.asked.signed_for method is.id body ≡ Ok x) same is.written;
}
  where
    same : is.bytes ≡ bytes
    same = some_bytes is.bytes bytes (sym is.there ∙ signed.sent)

-- what is known of the client after a sequence of calls
record IsLater (side : ClientSide) (later : Client) : Type 0 where
  one : IsOneTable later.requests.table.attached later.requests.numbers later.requests.next
  hears : is_same_address side.server later.server ≡ true
  identity : later.identity ≡ long_term side.who side.preferences side.accepts_unsigned
  form_is : later.form ≡ side.form
  required_is : later.requires_fingerprint ≡ side.requires_fingerprint

later_of : (g : goal.After-requests_can_be_written) (side : ClientSide) (c later : Client)
    (method : ℕ) (body : Body) (options : Option Options) (start : ℕ) (events : List Event)
    → IsClientOf side c → Calls (started method body options start c) events later
    → IsLater side later
later_of g side c later method body options start events of calls =
    let same = since_start c later method body options start events calls in
    record {
      one = (g.clients_stay_in_order.ensures.stays (started method body options start c) later
          events (started_is method body options start c of.client) calls).requests.one;
      hears = ap (λ (x : Parts). is_same_address side.server x.0) same ∙ of.hears;
      identity = ap (λ (x : Parts). x.1) same ∙ of.identity;
      form_is = ap (λ (x : Parts). x.3) same ∙ of.form_is;
      required_is = ap (λ (x : Parts). x.2) same ∙ of.required_is;
    }

-- a response is judged by this identity of the client
judges_as : (later : Client) (asked : AskedSeen) (response : List ℕ) (identity : Identity)
    → later.identity ≡ identity
    → judged later.requires_fingerprint true later.identity later.standing asked.signed_for response
    ≡ judged later.requires_fingerprint true identity later.standing asked.signed_for response
judges_as later asked response identity is =
    ap (λ (i : Identity). judged later.requires_fingerprint true i later.standing asked.signed_for
    response) is

-- each message for a challenge of the server can be written
page_for : (g : goal.After-requests_can_be_written) (s : Settings) (users : Registered)
    (side : ClientSide) (a : IntegrityAlgorithm) (method : ℕ) (body : Body) (from : SocketAddr)
    (time id : ℕ) (signed_for : Option Answered) (bytes : List ℕ) → CanMeet s users side a
    → method < 4096 → IsBuiltBody body
    → request_bytes side.form (long_term side.who side.preferences side.accepts_unsigned) signed_for
    method id body ≡ Ok bytes
    → (k : ℕ) → IsWritten side.form side.who side.preferences side.accepts_unsigned
    (Some (challenge_at s side a from time)) method k body
page_for g s users side a method body from time id signed_for bytes meet low built written k =
    let who = side.who in
    let prefers = side.preferences in
    let accepts = side.accepts_unsigned in
    let nonce = current_nonce s from time in
    let words = words_of s.algorithms s.secret from (epoch_of s time) in
    let few : length words ≤ 16 = sixteen _ in
    let fits : length nonce ≤ TEXT_LIMIT =
    omega (arith, g.nonces_have_the_bits_of_their_server.ensures.short s words, few) in
    g.requests_can_be_written.ensures.written side.form who prefers accepts
    (Some (challenge_at s side a from time)) method k body low built
    (software_fits side.form (long_term who prefers accepts) signed_for method id body bytes
    written)
    (short_challenge s prefers who nonce a meet.built meet.short fits)

-- what is read of a message that is signed for a challenge of the server
signed_read : (g : goal.After-requests_can_be_written) (s : Settings) (users : Registered)
    (side : ClientSide) (a : IntegrityAlgorithm) (method : ℕ) (body : Body) (from : SocketAddr)
    (time id : ℕ) (bytes : List ℕ) → CanMeet s users side a → method < 4096 → IsBuiltBody body
    → request_bytes side.form (long_term side.who side.preferences side.accepts_unsigned)
    (Some (challenge_at s side a from time)) method id body ≡ Ok bytes
    → IsReadAsMade side.form method (added_to (Some (challenge_at s side a from time))) bytes
signed_read g s users side a method body from time id bytes meet low built written =
    let text = g.nonces_have_the_bits_of_their_server.ensures.text s
    (words_of s.algorithms s.secret from (epoch_of s time)) in
    g.requests_are_read_back.ensures.as_made side.form side.who side.preferences
    side.accepts_unsigned
    (Some (challenge_at s side a from time)) method id body bytes low
    (g.requests_can_be_written.ensures.bodies body built).0
    (texts_of s side.preferences side.who (current_nonce s from time) a meet.built meet.text text)
    written

pub returns : goal.returns
returns g = λ s users from side a c later method body options start events bytes meet of meetable
    low built none calls out.
    let ordinary = (g.requests_can_be_written.ensures.bodies body built).0 in
    let who = side.who in
    let prefers = side.preferences in
    let accepts = side.accepts_unsigned in
    let number = next_number c in
    let begun = started method body options start c in
    let since = later_of g side c later method body options start events of calls in
    let hears_so = λ (x : AskedSeen) (same : x.options ≡ options).
    subst (λ (o : Option Options). is_same_address side.server (address_by o later.server) ≡ true)
    (sym same) (hears_by side options later.server meetable since.hears) in
    let signs_so = λ (x : AskedSeen) (same : x.options ≡ options).
    subst (λ (o : Option Options). identity_by o later.identity ≡ later.identity) (sym same)
    (signs_by side options later.identity meetable) in
    let sent_as = λ (x : AskedSeen) (there : datum_of number later.requests ≡ Some x).
    g.requests_are_sent_as_they_were_started.ensures.kept c later events method body options start x
    of.client low none calls there in
    record {
      challenged = λ time unsigned.
          let known = known_of side c later method body options bytes None of meetable
          unsigned
          (sent_as unsigned.asked unsigned.stored) in
          received_of_own s (Some users) from time bytes (own_realm s users meet.known.realm)
          ∙ g.requests_are_challenged.ensures s (realm_knowing s users) from time side.form who
          prefers
          accepts method known.id body bytes low ordinary meet.printed known.written;
      renewed = λ time now memory unsigned can strong.
          let response =
          (challenge_answer s Unauthenticated (current_nonce s from time) from bytes).bytes in
          let challenge = challenge_at s side a from time in
          let asked = unsigned.asked in
          let known = known_of side c later method body options bytes None of meetable
          unsigned
          (sent_as asked unsigned.stored) in
          let read = g.requests_are_read_back.ensures.as_made side.form who prefers accepts None
          method
          known.id body bytes low ordinary
          (record { nonce = tt; realm = tt; username = tt; userhash = tt }) known.written in
          let short : transaction_id_field bytes < 2 ^ 96 =
          subst (λ k. k < 2 ^ 96) (sym (known.id_is ∙ known.derived)) (id_fits c.seed
          known.id_number) in
          let sends = λ (is : later.requires_fingerprint ≡ true).
          is_printed side.form.has_fingerprint bytes read.print
          (meet.required (sym since.required_is ∙ is)) in
          let read_as = g.challenges_are_read_as_meant.ensures s Unauthenticated s.secret from from
          (epoch_of s time) later.requires_fingerprint bytes meet.built refl short sends in
          let says = judges_as later asked response (long_term who prefers accepts) since.identity
          ∙ g.challenges_of_a_server_are_answered.ensures s Unauthenticated s.secret from from
          (epoch_of s time) bytes later.requires_fingerprint later.standing asked.signed_for who
          prefers accepts a meet.built refl short sends meet.agree
          (ap (is_one (Some challenge)) unsigned.signed) strong
          ∙ ap (λ (o : Option Answered). sent_for o response challenge) unsigned.signed in
          sends_again side later number known.id asked response since.one known.named
          unsigned.stored
          read_as.0.message (hears_so asked known.options_are)
          (signs_so asked known.options_are) (read_as.0.id ∙ known.id_is)
          (subst (λ m. is_answer m response ≡ true) (sym (known.method_is ∙ sym read.method_is))
          read_as.0.answers)
          memory now method body challenge known.method_is known.body_is since.form_is
          since.identity
          says can
          (page_for g s users side a method body from time known.id None bytes meet low built
          known.written)
          begun events calls;
      accepted = λ time now signed within.
          let known = known_of side c later method body options bytes
          (Some (challenge_at s side a from time)) of meetable signed
          (sent_as signed.asked signed.stored) in
          g.requests_are_accepted.ensures s users from time now side.form who prefers accepts a
          method
          known.id body bytes meet.built meet.known meet.text meet.agree within low ordinary
          meet.printed
          known.written;
      stale = λ time now signed other.
          let known = known_of side c later method body options bytes
          (Some (challenge_at s side a from time)) of meetable signed
          (sent_as signed.asked signed.stored) in
          let read = signed_read g s users side a method body from time known.id bytes meet low
          built
          known.written in
          let up_to_date = g.nonces_of_a_server_are_up_to_date.ensures.marked (registered_of s)
          s.feature in
          let accepted_so = accepted_again s users who meet.known prefers (current_nonce s from
          time) a
          Request None (reading_of bytes)
          (up_to_date (map letter (words_of s.algorithms s.secret from (epoch_of s time))))
          meet.agree
          read.reads in
          received_of_own s (Some users) from now bytes (own_realm s users meet.known.realm)
          ∙ g.forgotten_nonces_are_stale.ensures s (realm_knowing s users) from time now bytes
          (client_named who a)
          (undropped s side.form method (added_to (Some (challenge_at s side a from time))) bytes
          meet.printed read)
          read.class accepted_so other;
      refreshed = λ time then_at now memory signed other can strong.
          let response =
          (challenge_answer s StaleNonce (current_nonce s from then_at) from bytes).bytes in
          let challenge = challenge_at s side a from then_at in
          let asked = signed.asked in
          let known = known_of side c later method body options bytes
          (Some (challenge_at s side a from time)) of meetable signed
          (sent_as asked signed.stored) in
          let read = signed_read g s users side a method body from time known.id bytes meet low
          built
          known.written in
          let short : transaction_id_field bytes < 2 ^ 96 =
          subst (λ k. k < 2 ^ 96) (sym (known.id_is ∙ known.derived)) (id_fits c.seed
          known.id_number) in
          let sends = λ (is : later.requires_fingerprint ≡ true).
          is_printed side.form.has_fingerprint bytes read.print
          (meet.required (sym since.required_is ∙ is)) in
          let read_as = g.challenges_are_read_as_meant.ensures s StaleNonce s.secret from from
          (epoch_of s then_at) later.requires_fingerprint bytes meet.built refl short sends in
          let says = judges_as later asked response (long_term who prefers accepts) since.identity
          ∙ g.challenges_of_a_server_are_answered.ensures s StaleNonce s.secret from from
          (epoch_of s then_at) bytes later.requires_fingerprint later.standing asked.signed_for who
          prefers accepts a meet.built refl short sends meet.agree
          (is_another s prefers who a from time then_at asked.signed_for signed.signed
          other.current)
          strong in
          sends_again side later number known.id asked response since.one known.named signed.stored
          read_as.0.message (hears_so asked known.options_are)
          (signs_so asked known.options_are) (read_as.0.id ∙ known.id_is)
          (subst (λ m. is_answer m response ≡ true) (sym (known.method_is ∙ sym read.method_is))
          read_as.0.answers)
          memory now method body challenge known.method_is known.body_is since.form_is
          since.identity
          says can
          (page_for g s users side a method body from then_at known.id
          (Some (challenge_at s side a from time)) bytes meet low built known.written)
          begun events calls;
      ended = λ time now response memory signed answers is_signed.
          let challenge = challenge_at s side a from time in
          let asked = signed.asked in
          let known = known_of side c later method body options bytes (Some challenge) of meetable
          signed
          (sent_as asked signed.stored) in
          let read = signed_read g s users side a method body from time known.id bytes meet low
          built
          known.written in
          let says : judged later.requires_fingerprint true later.identity later.standing
          asked.signed_for response ≡ believed (Some a) =
          judges_as later asked response (long_term who prefers accepts) since.identity
          ∙ ap (λ (o : Option Answered). judged later.requires_fingerprint true
          (long_term who prefers accepts) later.standing o response) signed.signed
          ∙ g.signed_answers_are_believed.ensures later.requires_fingerprint who prefers accepts
          later.standing challenge response a
          (subst (λ b. IsSignedAnswer b response challenge.challenge.key a) (sym since.required_is)
          is_signed) in
          ends_so side later number known.id asked response since.one known.named signed.stored
          answers.message (hears_so asked known.options_are)
          (signs_so asked known.options_are) (answers.id ∙ known.id_is)
          (subst (λ m. is_answer m response ≡ true) (sym (known.method_is ∙ sym read.method_is))
          answers.answers)
          memory now a says;
    }
