-- Each part was added, and so nothing was refused.
use Rattle.std.proofs.Common.{◌∙◌, ap, sym}
use Rattle.std.specs.Option.{option_map}
use Rattle.std.specs.String.{string_bytes}
use Rattle.stun_endpoint.specs.Ended.{finish_refusal}
use Rattle.stun_endpoint.proofs.EndedLemmas.{refused_nothing}
use Rattle.stun_endpoint.proofs.ending.Ending.finish.Goals as goal

pub returns-in_ok-response-clause-ok : goal.returns-in_ok-response-clause-ok
returns-in_ok-response-clause-ok g c =
    ap (λ ending. finish_refusal ending c.args.page.bytes) (sym c.self.view_is)
    ∙ refused_nothing (option_map string_bytes c.self.inside.software.now) c.self.inside.signature.now
    c.self.inside.has_fingerprint c.args.page.bytes c.add_software.new.page.bytes
    c.add_signature.new.page.bytes c.in_ok-add_software.field-0 c.in_ok-add_signature.field-0
    c.in_ok-response.response c.if-self.true c.in_ok-add_software.ensures.bytes
    c.in_ok-add_software.ensures.refused c.in_ok-add_signature.ensures.bytes
    c.in_ok-add_signature.ensures.refused c.in_ok-response.ensures.refused
