-- What is refused of the user is refused by a server with long-term credentials.
use Rattle.std.proofs.Common.{◌≡◌, ◌∙◌, ap, sym, refl, Err}
use Rattle.stun_c_endpoint.specs.Found.{judge_by_found}
use Rattle.stun_c_endpoint.specs.code.Found.{found_user}
use Rattle.stun_c_endpoint.proofs.FoundLemmas.{judged_by_none}
use Rattle.stun_c_endpoint.proofs.found.resume.Goals as goal

pub returns-in-Err : goal.returns-in-Err
returns-in-Err c =
    let name = c.args.found.now.name.now in
    let password = c.args.found.now.password.now in
    let has_password = c.args.found.now.has_password in
    let sha1 = c.args.found.now.sha1.now in
    let sha256 = c.args.found.now.sha256.now in
    let refusal = c.in-Err.refusal in
    let err : found_user name password has_password sha1 sha256 ≡ Err refusal =
    sym c.to_user.ensures ∙ c.in-Err.is in
    let none : judge_by_found name password has_password sha1 sha256 c.args.server.now
    ≡ Err refusal =
    ap (λ kept. judge_by_found name password has_password sha1 sha256 kept) c.in-Server.is
    ∙ judged_by_none c.in-Server.server name password has_password sha1 sha256 refusal err in
    rw none (refl, refl, refl)
