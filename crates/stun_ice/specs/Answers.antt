-- The answers to checks, byte by byte (RFC 8489, sections 6.3.1 and 9.1.3; RFC 8445, section 7.3).
-- Each is an answer of this agent: signed with its own password, and with FINGERPRINT.
use Rattle.std.specs.Prelude.{ℕ, List, Option, Some, None, codes}
use Rattle.std.specs.declared.net.socket_addr.SocketAddr.{SocketAddr}
use Rattle.stun_base.specs.declared.keys.algorithm.IntegrityAlgorithm.{IntegrityAlgorithm}
use Rattle.stun_base.specs.declared.wire.message_type.MessageClass.TheVariants.{Error, Success}
use Rattle.stun_types.specs.Writing.{empty_answer, with_attribute, with_integrity}
use Rattle.stun_extra.specs.CanonicalAddress.{mapped_address}
use Rattle.stun_extra.specs.Errors.{error_code_attribute}
use Rattle.stun_extra.specs.Fingerprint.{with_fingerprint}
use Rattle.stun_extra.specs.Unknown.{refusing_answer}
use Rattle.stun_ice.specs.Agent.{Agent}
use Rattle.stun_ice.specs.Parts.{UNDERSTOOD}
use Rattle.stun_ice.specs.declared.checker.judging.Verdict.{Verdict}
use Rattle.stun_ice.specs.declared.checker.judging.Verdict.TheVariants.{Accepted, Conflict, Refused}
use Rattle.stun_ice.specs.declared.received.Refusal.{Refusal}
use Rattle.stun_ice.specs.declared.received.Refusal.TheVariants.{BadRequest, Unauthenticated}
use Rattle.stun_ice.specs.declared.received.Refusal.TheVariants.{UnknownAttribute}

-- the integrity attribute of an algorithm, if the answer is signed
abbrev pub with_signature : Agent → Option IntegrityAlgorithm → List ℕ → List ℕ
with_signature a None page = page
with_signature a (Some algorithm) page = with_integrity page algorithm a.password

-- the end of an answer
abbrev pub with_end : Agent → Option IntegrityAlgorithm → List ℕ → List ℕ
with_end a signature page = with_fingerprint (with_signature a signature page)

-- an error response to a request, with ERROR-CODE alone
abbrev pub error_page : List ℕ → ℕ → List ℕ → List ℕ
error_page request code reason =
    with_attribute (empty_answer Error request) (error_code_attribute code reason)

-- a success response to a request, with XOR-MAPPED-ADDRESS alone
abbrev pub mapped_page : SocketAddr → List ℕ → List ℕ
mapped_page from request =
    with_attribute (empty_answer Success request) (mapped_address from request)

-- the success response, signed with the algorithm of the check
abbrev pub success_answer : Agent → SocketAddr → List ℕ → IntegrityAlgorithm → List ℕ
success_answer a from request algorithm = with_end a (Some algorithm) (mapped_page from request)

-- the 487, signed with the algorithm of the check
abbrev pub conflict_answer : Agent → List ℕ → IntegrityAlgorithm → List ℕ
conflict_answer a request algorithm =
    with_end a (Some algorithm) (error_page request 487 (codes "Role Conflict"))

-- the answer to a check that is refused. A 400 or 401 answers a check that the peer has not signed,
-- and is not signed itself (RFC 8489, section 9.1.3)
abbrev pub refused_answer : Agent → List ℕ → Refusal → Option IntegrityAlgorithm → List ℕ
refused_answer a request BadRequest signature =
    with_end a signature (error_page request 400 (codes "Bad Request"))
refused_answer a request Unauthenticated signature =
    with_end a signature (error_page request 401 (codes "Unauthenticated"))
refused_answer a request UnknownAttribute signature =
    with_end a signature (refusing_answer UNDERSTOOD request)

-- the answer to a check from an address
abbrev pub answer_of : Agent → SocketAddr → List ℕ → Verdict → List ℕ
answer_of a from request (Accepted check) = success_answer a from request check.algorithm
answer_of a from request (Conflict algorithm) = conflict_answer a request algorithm
answer_of a from request (Refused reason signature) = refused_answer a request reason signature
