-- A request that nobody signed is challenged.
use Rattle.std.proofs.Common.{◌≡◌, ℕ, zero, suc, Bool, true, false, List, ◌∷◌, Option, Some, None}
use Rattle.std.proofs.Common.{refl}
use Rattle.std.proofs.Common.{◌∙◌, ap, Err}
use Rattle.std.specs.Prelude.{cond, drop, ◌&&◌}
use Rattle.std.specs.List.{find}
use Rattle.std.specs.Option.{is_none, is_some, option_map_or}
use Rattle.std.specs.declared.net.socket_addr.SocketAddr.{SocketAddr}
use Rattle.stun_base.specs.MessageType.{class_in}
use Rattle.stun_base.specs.declared.keys.algorithm.IntegrityAlgorithm.{IntegrityAlgorithm}
use Rattle.stun_base.specs.declared.wire.message_type.MessageClass.TheVariants.{Request}
use Rattle.stun_judging.specs.Verdict.{or_before, ClientSeen, client_of, is_unoffered, or_refused}
use Rattle.stun_judging.specs.Verdict.{refusals, verdict}
use Rattle.stun_judging.specs.Reading.{Reading, reading_of}
use Rattle.stun_judging.specs.declared.refusal.VerdictRefusal.{VerdictRefusal}
use Rattle.stun_judging.specs.declared.refusal.VerdictRefusal.TheVariants.{Unauthorized, BadRequest}
use Rattle.stun_endpoint.specs.Judged.{Realm, judged_under, or_previous, verdict_under}
use Rattle.stun_endpoint.specs.Nonces.{current_nonce, epoch_of, nonce_in}
use Rattle.stun_endpoint.specs.Received.{answered, by_class, by_verdict, challenge_answer}
use Rattle.stun_endpoint.specs.Received.{received_by, unless_dropped}
use Rattle.stun_endpoint.specs.Responding.{drop_reason}
use Rattle.stun_endpoint.specs.Settings.{Settings}
use Rattle.stun_endpoint.specs.declared.received.Refusal.TheVariants.{Unauthenticated}

-- the first row that holds decides
first_row : (b : Bool) (why : VerdictRefusal) (rows : List (Bool × VerdictRefusal))
    (client : ClientSeen) → b ≡ true
    → or_refused (option_map_or (λ (row : Bool × VerdictRefusal). Some row.1)
    (find (λ (row : Bool × VerdictRefusal). row.0) ((b, why) ∷ rows)) None) client
    ≡ Err why
first_row true why rows client is = refl
first_row false why rows client is = cc

module _ (s : Settings) (realm : Realm) (from : SocketAddr) (r : Reading)
    (none : r.integrity ≡ None) where
  unauthorized : (nonce : List ℕ) → verdict_under realm nonce r ≡ Err Unauthorized
  unauthorized nonce =
      ap (λ (o : Option (List ℕ → Option IntegrityAlgorithm)).
      cond (is_some o && is_unoffered realm.offered r) (Err BadRequest)
      (verdict realm.users realm.feature nonce (Some realm.offered) r)) none
      ∙ first_row (is_none r.integrity) Unauthorized
      (drop 1 (refusals realm.users realm.feature nonce (Some realm.offered) r))
      (client_of realm.users realm.feature nonce (Some realm.offered) r) (ap is_none none)

  under : (secret : List ℕ) (epoch : ℕ)
      → judged_under s realm secret from epoch r ≡ Err Unauthorized
  under secret zero = unauthorized (nonce_in s secret from 0)
  under secret (suc e) =
      ap (λ v. or_before v (verdict_under realm (nonce_in s secret from e) r))
      (unauthorized (nonce_in s secret from (suc e)))

  previously : (previous : Option (List ℕ)) (epoch : ℕ)
      → or_previous s realm previous from epoch r (Err Unauthorized) ≡ Err Unauthorized
  previously None epoch = refl
  previously (Some secret) epoch = refl

pub challenged : (s : Settings) (realm : Realm) (from : SocketAddr) (now : ℕ) (bytes : List ℕ)
    → drop_reason s.requires_fingerprint bytes ≡ None → class_in bytes ≡ Request
    → (reading_of bytes).integrity ≡ None
    → received_by s realm from now bytes
    ≡ answered (challenge_answer s Unauthenticated (current_nonce s from now) from bytes)
challenged s realm from now bytes stays asks none =
    let r = reading_of bytes in
    ap (unless_dropped (by_class s realm from now bytes (class_in bytes))) stays
    ∙ ap (by_class s realm from now bytes) asks
    ∙ ap (by_verdict s realm from now bytes)
    (ap (or_previous s realm s.previous from (epoch_of s now) r)
    (under s realm from r none s.secret (epoch_of s now))
    ∙ previously s realm from r none s.previous (epoch_of s now))
