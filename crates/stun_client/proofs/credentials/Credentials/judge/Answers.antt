-- With long-term credentials, what has no fault needs memory only if a challenge is read.
use Rattle.std.proofs.Common.{◌≡◌, ap, false, subst}
use Rattle.stun_client.specs.Judging.{fault_in, identity_of, needs_memory}
use Rattle.stun_client.proofs.JudgingLemmas.{not_needed}
use Rattle.stun_client.proofs.credentials.Credentials.judge.Goals as goal

pub returns-in-LongTerm-clause-no_memory : goal.returns-in-LongTerm-clause-no_memory
returns-in-LongTerm-clause-no_memory g c = λ unneeded.
    let bytes = c.args.response.now in
    let required = c.args.requires_fingerprint in
    c.judge-in-LongTerm.ensures.no_memory
    (not_needed (fault_in required bytes) _ (cc)
    (subst (λ identity. needs_memory required identity c.args.signed_for.now bytes ≡ false)
    (ap identity_of c.in-LongTerm.is) unneeded))
