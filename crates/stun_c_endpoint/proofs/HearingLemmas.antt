-- What a call that reads a datagram comes to is what its client makes of the datagram.
use Rattle.std.proofs.Common.{◌≡◌, ℕ, ℤ, pos, List, Option, Some, sym, subst}
use Rattle.std.specs.declared.net.socket_addr.SocketAddr.{SocketAddr}
use Rattle.stun_client_calls.specs.Clients.{Client as ClientSeen}
use Rattle.stun_client_calls.specs.Receiving.{Answer, UnlessMemory, heard_in, received}
use Rattle.stun_c_endpoint.specs.Clients.{HearsFrom, received_number, why_told}
use Rattle.stun_c_endpoint.specs.declared.handle.endpoint.Kept.{Kept}
use Rattle.stun_c_endpoint.specs.declared.handle.endpoint.Kept.TheVariants.{Client}

module _ (from : SocketAddr) (bytes : List ℕ) (now : ℕ) (c : ClientSeen) (answer : Answer)
    (result : ℤ) (why why' : ℕ) (before after : Option Kept) where
  pub heard_from : (found : Option SocketAddr) (moment : ℕ) → found ≡ Some from → moment ≡ now
      → UnlessMemory (λ memory. received memory from bytes moment c) bytes (heard_in from bytes c) c
      answer
      → result ≡ pos (received_number answer.0) → why' ≡ why_told answer.0 why
      → after ≡ Some (Client answer.1)
      → HearsFrom found bytes now c result why why' before after
  heard_from found moment is at receives number told left =
      subst (λ o. HearsFrom o bytes now c result why why' before after) (sym is) (record {
        answer = answer;
        receives = subst
            (λ t. UnlessMemory (λ memory. received memory from bytes t c) bytes
            (heard_in from bytes c) c answer) at receives;
        number = number;
        why_is = told;
        left_is = left;
      })
