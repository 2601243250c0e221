-- The nonces of a server have the same bits, so its challenges are as strong as each other.
use Rattle.std.proofs.Common.{map}
use Rattle.stun_judging.specs.Nonces.{letter}
use Rattle.stun_endpoint.specs.Settings.{registered_of}
use Rattle.stun_endpoint.specs.Nonces.{words_of}
use Rattle.stun_sessions.proofs.SessionLemmas.{alike_stay, answered_last, is_heeded, stays_current}
use Rattle.stun_sessions.proofs.SessionLemmas.{stays_or_gives_way}
use Rattle.stun_sessions.proofs.sessions.a_session_goes_on_with_the_last_challenge.Goals as goal

pub returns-clause-stays : goal.returns-clause-stays
returns-clause-stays c = λ standing challenge. (
  answered_last standing challenge,
  stays_current standing,
  stays_or_gives_way standing,
)

pub returns-clause-alike : goal.returns-clause-alike
returns-clause-alike c = λ s who p a standing other here known.
    alike_stay s (λ secret from epoch. (c.nonces_of_a_server_are_up_to_date.ensures.marked
    (registered_of s) s.feature (map letter (words_of s.algorithms secret from epoch))).hashes)
    p who a standing other here known

pub returns-clause-heeded : goal.returns-clause-heeded
returns-clause-heeded c = λ s who p a standing secret from epoch confirmed.
    is_heeded s (λ secret from epoch. (c.nonces_of_a_server_are_up_to_date.ensures.marked
    (registered_of s) s.feature (map letter (words_of s.algorithms secret from epoch))).hashes)
    p who a standing secret from epoch confirmed
