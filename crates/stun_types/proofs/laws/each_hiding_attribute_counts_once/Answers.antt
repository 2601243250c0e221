-- The first of each kind hides the later ones, so at most one is visible.
use Rattle.stun_types.proofs.OnceLemmas.{once-fingerprint, once-integrity, once-integrity_sha256}
use Rattle.stun_types.proofs.laws.each_hiding_attribute_counts_once.Goals as goal

pub returns-clause-integrity : goal.returns-clause-integrity
returns-clause-integrity c = once-integrity

pub returns-clause-integrity_sha256 : goal.returns-clause-integrity_sha256
returns-clause-integrity_sha256 c = once-integrity_sha256

pub returns-clause-fingerprint : goal.returns-clause-fingerprint
returns-clause-fingerprint c = once-fingerprint
