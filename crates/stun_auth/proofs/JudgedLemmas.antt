-- Judging under the nonce of a place is what a server does there.
use Rattle.std.proofs.Common.{◌≡◌, ℕ, List, Some, true, false, ◌∙◌, ap}
use Rattle.std.specs.Prelude.{cond}
use Rattle.std.specs.FinMap as fin
use Rattle.std.specs.declared.net.socket_addr.SocketAddr.{SocketAddr}
use Rattle.stun_base.specs.MessageType.{is_response}
use Rattle.stun_base.specs.Moments.{moment_after}
use Rattle.stun_auth.specs.Judged.{verdict_by_nonce}
use Rattle.stun_judging.specs.Nonces.{nonce_of}
use Rattle.stun_judging.specs.Reading.{Reading}
use Rattle.stun_auth.specs.Seen.{PlaceSeen, renewed_place}
use Rattle.stun_auth.specs.Server.{current_place, current_place_of, has_current_nonce}
use Rattle.stun_judging.specs.Verdict.{verdict}
use Rattle.stun_auth.specs.Validation.{ServerSeen, answer, answer_to, needs_nonce, place_after}
use Rattle.stun_auth.specs.Validation.{sight, verdict_at, with_accepted}
use Rattle.stun_auth.proofs.AcceptedAnswers.{unresponded}

module _ (s : ServerSeen) (from : SocketAddr) (now : ℕ) (words : List ℕ) (place : PlaceSeen)
    (is : fin.get s.places from ≡ Some place)
    (stands : has_current_nonce now (Some place) ≡ true) where
  -- the nonce that is current stays
  current : current_place (sight s from) now words ≡ place
  current =
      let nonce = nonce_of s.registered.algorithms s.feature words in
      let end = moment_after now s.expiry in
      ap (λ o. current_place_of o nonce now end) is
      ∙ ap (λ b. cond b place (renewed_place (Some place) nonce end)) stands

  -- the answer is the verdict at the place
  pub answer-at : (r : Reading) → is_response r.class ≡ false
      → answer (sight s from) now words r ≡ answer_to (verdict_at (sight s from) place r)
  answer-at r plain =
      unresponded (sight s from) now words r plain
      ∙ ap (λ p. answer_to (verdict_at (sight s from) p r)) current

  module _ (r : Reading) (offered : place.offered ≡ Some s.registered.algorithms) where
    under : verdict_at (sight s from) place r ≡ verdict_by_nonce s place.nonce r
    under = ap (λ o. verdict s.registered s.feature place.nonce o r) offered

    pub answer-judged : is_response r.class ≡ false
        → answer (sight s from) now words r ≡ answer_to (verdict_by_nonce s place.nonce r)
    answer-judged plain = answer-at r plain ∙ ap answer_to under

    pub place-judged : needs_nonce r ≡ true
        → place_after (sight s from) now words r
        ≡ Some (with_accepted place (verdict_by_nonce s place.nonce r))
    place-judged needs =
        ap (λ b.
        cond b
        (Some (with_accepted (current_place (sight s from) now words)
        (verdict_at (sight s from) (current_place (sight s from) now words) r)))
        (fin.get s.places from)) needs
        ∙ ap (λ p. Some (with_accepted p (verdict_at (sight s from) p r))) current
        ∙ ap (λ v. Some (with_accepted place v)) under
