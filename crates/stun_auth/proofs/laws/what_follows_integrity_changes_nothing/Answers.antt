-- A verdict is a function of the reading, and the reading is of what is visible.
use Rattle.std.proofs.Common.{ap}
use Rattle.stun_auth.specs.ClientStep.{client_step}
use Rattle.stun_auth.specs.Validation.{after_validation, answer, sight}
use Rattle.stun_auth.proofs.TailAnswers.{short_term-alike}
use Rattle.stun_auth.proofs.laws.what_follows_integrity_changes_nothing.Goals as goal

pub returns-clause-server : goal.returns-clause-server
returns-clause-server c = λ s from now words bytes others agree.
    let same = c.what_follows_integrity_is_not_read.ensures bytes others agree in
    (ap (answer (sight s from) now words) same, ap (after_validation s from now words) same)

pub returns-clause-client : goal.returns-clause-client
returns-clause-client c =
    λ settings state bytes others agree.
    ap (client_step settings state) (c.what_follows_integrity_is_not_read.ensures bytes others agree)

pub returns-clause-short_term : goal.returns-clause-short_term
returns-clause-short_term c =
    λ secret bytes others agree.
    short_term-alike secret bytes others agree (record {
      kind = (c.what_follows_integrity_is_hidden.ensures.header bytes others agree).0;
      shown = c.what_follows_integrity_is_hidden.ensures.visible bytes others agree;
      verdict = λ keys. c.what_follows_integrity_is_hidden.ensures.verdict keys bytes others agree;
    })
