-- The request is accepted, and what it comes to is signed with its key.
use Rattle.std.proofs.Common.{List, ℕ, refl, sym, subst}
use Rattle.stun_base.specs.Keys.{long_term_key}
use Rattle.stun_base.specs.declared.wire.message_type.MessageClass.TheVariants.{Request}
use Rattle.std.specs.Prelude.{None}
use Rattle.stun_endpoint.specs.Judged.{key_of_client}
use Rattle.stun_endpoint.specs.Received.{Outcome, outcome_of_accepted}
use Rattle.stun_exchanges.specs.Exchange.{realm_knowing}
use Rattle.stun_sessions.specs.Responses.{OutcomeEnds}
use Rattle.stun_sessions.specs.Sessions.{client_named}
use Rattle.stun_sessions.proofs.SessionLemmas.{decides, key_again}
use Rattle.stun_sessions.proofs.sessions.each_request_takes_one_exchange.Goals as goal

pub returns : goal.returns
returns c = λ s users who p a from made now required bytes is within.
    let realm = realm_knowing s users in
    let seen = client_named who a in
    let key = long_term_key a who.username s.realm who.password in
    let outcome = outcome_of_accepted s (key_of_client realm seen) from bytes seen in
    let accepted = c.users_are_accepted_by_the_strongest.ensures s users who p a from made now bytes
    Request None is.agree is.registered within is.undropped is.class is.reads in
    let answers = c.accepted_requests_are_answered.ensures s (key_of_client realm seen) from bytes seen
    required a is.built is.message is.sends
    (decides bytes key a (is.reads.digest_verifies (record { algorithm = a; key = key }) refl)) in
    let under_key = subst (λ (k : List ℕ). OutcomeEnds required bytes k a outcome)
    (key_again s users who p a is.registered is.agree) answers in (
      accepted,
      subst (λ (o : Outcome). OutcomeEnds required bytes key a o) (sym accepted) under_key,
    )
