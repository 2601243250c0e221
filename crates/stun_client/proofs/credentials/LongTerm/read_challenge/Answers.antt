-- Reading fails only if there is a challenge.
use Rattle.std.proofs.Common.{◌≡◌, ◌∙◌, Option, true, false, ap}
use Rattle.std.specs.Option.{option_map}
use Rattle.stun_client.specs.Challenges.{Answered, challenge_of}
use Rattle.stun_client.proofs.JudgingLemmas.{not_answered}
use Rattle.stun_client.proofs.credentials.LongTerm.read_challenge.Goals as goal

differ : false ≡ true → ⊥
differ is = cc

pub returns-in_err-read-clause-no_memory : goal.returns-in_err-read-clause-no_memory
returns-in_err-read-clause-no_memory g c = λ none.
    let long = c.args.self.now in
    let bytes = c.args.message.now in
    absurd (differ (c.in_err-read.ensures.no_memory
    (ap (λ (before : Option Answered). challenge_of long.preferences long.user
    (option_map (λ (b : Answered). b.challenge) before) bytes) c.as_ref-before.ensures.value
    ∙ not_answered long.preferences _ none)))
