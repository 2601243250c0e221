-- The two pieces are what the attribute covers, and its algorithm is the one that the digest was
-- made with.
use Rattle.std.proofs.Common.{sym, ◌∙◌}
use Rattle.stun_base.specs.declared.keys.algorithm.IntegrityAlgorithm.TheVariants.{Sha1, Sha256}
use Rattle.stun_types.proofs.IntegrityLemmas.{is_digest-told}
use Rattle.stun_types.proofs.integrity.is_digest.Goals as goal

pub returns-in-Sha1 : goal.returns-in-Sha1
returns-in-Sha1 c =
    is_digest-told c.args.message.now c.args.key.now c.args.attribute.now Sha1
    (sym c.read_algorithm.ensures ∙ c.in-Sha1.is) c.requires.behind_header c.requires.whole
    c.value-claimed.ensures c.length.ensures c.make_covered_start-start.ensures c.hmac_sha1.ensures
    c.is_same_text.ensures

pub returns-in-Sha256 : goal.returns-in-Sha256
returns-in-Sha256 c =
    is_digest-told c.args.message.now c.args.key.now c.args.attribute.now Sha256
    (sym c.read_algorithm.ensures ∙ c.in-Sha256.is) c.requires.behind_header c.requires.whole
    c.value-claimed.ensures c.length.ensures c.make_covered_start-start.ensures
    c.hmac_sha256.ensures c.is_same_text-in-Sha256.ensures
