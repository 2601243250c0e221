-- What the authenticator adds is what the settings say, under a nonce that asks for a choice of
-- algorithms if and only if there is one.
use Rattle.std.proofs.Common.{rules, arith, ◌≡◌, ◌≤◌, ◌-◌, ◌∷◌, ◌∙◌, length, ap, sym, subst}
use Rattle.std.specs.Prelude.{IfOk}
use Rattle.stun_base.specs.declared.keys.algorithm.IntegrityAlgorithm.TheVariants.{Sha256}
use Rattle.stun_types.specs.Limits.{TEXT_LIMIT}
use Rattle.stun_types.specs.Message.{LENGTH_LIMIT}
use Rattle.stun_judging.specs.AddedAttribute as added
use Rattle.stun_judging.specs.Algorithms.{contains}
use Rattle.stun_endpoint.specs.Answers.{offered, with_attributes}
use Rattle.stun_endpoint.specs.Settings.{Settings}
use Rattle.stun_endpoint.proofs.OfferLemmas.{challenged_in}
use Rattle.stun_endpoint.proofs.OfferedLemmas.{challenge_endable, challenge_granted}
use Rattle.stun_endpoint.proofs.server.Server.add_challenge.Goals as goal

pub returns-clause-bytes : goal.returns-clause-bytes
returns-clause-bytes g c =
    subst (λ (s : Settings). IfOk c.add_challenge.result
    (λ challenged. challenged.bytes ≡ with_attributes c.args.page.bytes
    (added.nonce c.args.nonce.now ∷ added.realm s.realm ∷ offered s.algorithms))) c.self.view_is
    (challenged_in _ c.self.inside.realm.registered c.args.nonce.now
    (record {
      bytes = c.args.page.bytes;
      room = LENGTH_LIMIT - length c.args.page.bytes;
    })
    (λ w. w.bytes) (λ w. LENGTH_LIMIT - length w.bytes) c.add_challenge.result
    (c.requires.offer ∙ ap (λ (s : Settings). contains Sha256 s.algorithms) (sym c.self.view_is))
    c.add_challenge.ensures.answer)

pub returns-clause-room : goal.returns-clause-room
returns-clause-room g c =
    let users = c.self.inside.realm.registered in
    let short : length users.realm ≤ TEXT_LIMIT = search rules in
    challenge_endable users c.args.nonce.now c.args.page.bytes (λ w. w.bytes) c.add_challenge.result
    c.requires.page c.requires.short short
    (challenged_in _ users c.args.nonce.now
    (record {
      bytes = c.args.page.bytes;
      room = LENGTH_LIMIT - length c.args.page.bytes;
    })
    (λ w. w.bytes) (λ w. LENGTH_LIMIT - length w.bytes) c.add_challenge.result
    (c.requires.offer ∙ ap (λ (s : Settings). contains Sha256 s.algorithms) (sym c.self.view_is))
    c.add_challenge.ensures.answer)

pub returns-clause-granted : goal.returns-clause-granted
returns-clause-granted g c = λ grants.
    let users = c.self.inside.realm.registered in
    let short : length users.realm ≤ TEXT_LIMIT = search rules in
    challenge_granted _ users c.args.nonce.now c.args.page.bytes (λ w. w.bytes)
    (λ w. LENGTH_LIMIT - length w.bytes) c.add_challenge.result
    (c.requires.offer ∙ ap (λ (s : Settings). contains Sha256 s.algorithms) (sym c.self.view_is))
    c.requires.page c.requires.short short c.add_challenge.ensures.answer
    (c.add_challenge.ensures.granted grants)
