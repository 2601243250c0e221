-- What is signed is longer by what signing adds, and what may be signed is signed without memory.
use Rattle.std.proofs.Common.{◌≤◌, Bool, Result, Err, refl, sym, ◌∙◌, ap, true≢false, subst}
use Rattle.std.specs.Prelude.{⊤, IsOk}
use Rattle.std.specs.Result.{is_ok}
use Rattle.std.proofs.lemmas.Result.{err_from_is_err_and}
use Rattle.stun_base.specs.declared.wire.error.StunWriteError.{StunWriteError}
use Rattle.stun_judging.specs.Additions.{Page, UnlessMemory, page_in}
use Rattle.stun_judging.specs.Outcome.{outcome_of}
use Rattle.stun_auth.specs.ServerSigning.{server_growth, server_signed}
use Rattle.stun_auth.specs.Validation.{sight}
use Rattle.stun_auth.proofs.ServerGrowth.{grown_by_server, server_wants_short}
use Rattle.stun_judging.proofs.Growth.{succeeds_reserved}
use Rattle.stun_auth.proofs.SignedLimits.{server_signable}
use Rattle.stun_judging.proofs.Wanting.{signable_refused}
use Rattle.stun_auth.proofs.server.LongTermServerAuth.sign_outgoing_message.Goals as goal

pub returns-in_err-add_signature-clause-succeeds : goal.returns-in_err-add_signature-clause-succeeds
returns-in_err-add_signature-clause-succeeds g c = λ may enough.
    let bytes = g.W.MessageWrite.bytes in
    let room = g.W.MessageWrite.room in
    let s = sight c.args.self.now c.args.to in
    let page : Page = page_in bytes room c.args.writer in
    let signed : IsOk (server_signed s c.is_response-is_response.result page) =
    subst (λ (response : Bool). IsOk (server_signed s response page))
    (sym c.is_response-is_response.ensures)
    (c.sides_sign_what_is_signable.ensures.server s _ (bytes c.args.writer) (room c.args.writer)
    (server_signable s _ (bytes c.args.writer) (room c.args.writer) c.add_signature.ensures.short
    may)) in
    let reserved : server_growth s c.is_response-is_response.result
    ≤ g.W.MessageWrite.reserved c.args.writer =
    subst (λ (response : Bool). server_growth s response ≤ g.W.MessageWrite.reserved c.args.writer)
    (sym c.is_response-is_response.ensures) enough in
    let added =
    succeeds_reserved (λ r. outcome_of r (page_in bytes room c.add_signature.new.writer))
    (λ reason. refl) (server_signed s c.is_response-is_response.result page)
    (g.W.MessageWrite.reserved c.args.writer) _ _
    (server_wants_short s c.is_response-is_response.result page
    (g.W.MessageWrite.reserved c.args.writer)) c.add_signature.result c.add_signature.ensures.signed
    signed reserved in
    absurd (true≢false (sym added ∙ ap is_ok c.in_err-add_signature.was))

pub returns-clause-grows : goal.returns-clause-grows
returns-clause-grows g c =
    let s = sight c.args.self.now c.args.to in
    let bytes = g.W.MessageWrite.bytes in
    let room = g.W.MessageWrite.room in
    grown_by_server s _ (page_in bytes room c.args.writer)
    (page_in bytes room c.add_signature.new.writer) c.requires.is_whole
    (ap (λ (response : Bool). server_signed s response (page_in bytes room c.args.writer))
    (sym c.is_response-is_response.ensures) ∙ sym c.in_ok-add_signature.ensures.signed)

pub returns-in_err-add_signature-clause-signable : goal.returns-in_err-add_signature-clause-signable
returns-in_err-add_signature-clause-signable g c = λ may.
    let bytes = g.W.MessageWrite.bytes in
    let room = g.W.MessageWrite.room in
    let s = sight c.args.self.now c.args.to in
    let page : Page = page_in bytes room c.args.writer in
    let signed : IsOk (server_signed s c.is_response-is_response.result page) =
    subst (λ (response : Bool). IsOk (server_signed s response page))
    (sym c.is_response-is_response.ensures)
    (c.sides_sign_what_is_signable.ensures.server s _ (bytes c.args.writer) (room c.args.writer)
    (server_signable s _ (bytes c.args.writer) (room c.args.writer) c.add_signature.ensures.short
    may)) in
    let refused = err_from_is_err_and c.from_residual.result c.from_residual.ensures.1 in
    subst (λ (r : Result g.row.W.Denot StunWriteError). UnlessMemory r (IsOk r) ⊤)
    (sym (refused.1 ∙ ap (λ reason. Err reason) refused.2))
    (signable_refused g.row.W.Denot _ _ _ c.in_err-add_signature.ensures.signed signed)
