-- A nonce is short enough to be written.
use Rattle.std.proofs.Common.{rules, ◌≡◌, ◌≤◌, List, ℕ, IfOk, Ok, Err, length, refl, subst, sym}
use Rattle.std.specs.String.{string_bytes}
use Rattle.std.specs.declared.result.Result.{Result}
use Rattle.stun_types.specs.Limits.{TEXT_LIMIT}
use Rattle.stun_endpoint.specs.Nonces.{nonce_in}
use Rattle.stun_endpoint.proofs.OfferedLemmas.{nonce_short}
use Rattle.stun_endpoint.proofs.server.Server.make_nonce.Goals as goal

if_short : {T E : Type 0} (result : Result T E) (bytes : T → List ℕ) (all : List ℕ)
    → IfOk result (λ value. bytes value ≡ all) → length all ≤ TEXT_LIMIT
    → IfOk result (λ value. length (bytes value) ≤ TEXT_LIMIT)
if_short (Ok value) bytes all is short = subst (λ l. length l ≤ TEXT_LIMIT) (sym is) short
if_short (Err error) bytes all is short = tt

pub returns-clause-short : goal.returns-clause-short
returns-clause-short g c =
    let s = c.args.self.now in
    let secret = c.args.secret.now in
    let is : IfOk c.write_nonce.result (λ nonce. string_bytes nonce
    ≡ nonce_in s secret c.args.from c.args.epoch) = search (rules, c.write_nonce.ensures.nonce) in
    if_short c.write_nonce.result string_bytes (nonce_in s secret c.args.from c.args.epoch) is
    (nonce_short s secret c.args.from c.args.epoch _ refl)
