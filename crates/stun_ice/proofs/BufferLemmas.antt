-- Only a check is answered, and without an answer the buffer is empty.
use Rattle.std.proofs.Common.{◌≡◌, List, ℕ, [], true, false, refl}
use Rattle.std.specs.declared.net.socket_addr.SocketAddr.{SocketAddr}
use Rattle.stun_ice.specs.Agent.{Agent}
use Rattle.stun_ice.specs.Buffered.{LeavesNoAnswer, given_in}
use Rattle.stun_ice.specs.Received.{checked, given, is_check}
use Rattle.stun_ice.specs.declared.checker.receiving.Judgement.{Judgement}
use Rattle.stun_ice.specs.declared.checker.receiving.Judgement.TheVariants as by
use Rattle.stun_ice.specs.declared.received.Judged.{Judged}
use Rattle.stun_ice.specs.declared.received.ReceivedInto.{ReceivedInto}
use Rattle.stun_ice.specs.declared.received.ReceivedInto.TheVariants as code

pub answers-check : (a : Agent) (from : SocketAddr) (j : Judgement) (message answer : List ℕ)
    (judged : Judged) → given a from j ≡ checked message answer judged → is_check j ≡ true
answers-check a from (by.Check b verdict) message answer judged h = refl
answers-check a from (by.Response outcome) message answer judged h = cc
answers-check a from (by.Indication b) message answer judged h = cc
answers-check a from (by.Dropped reason) message answer judged h = cc

-- what is given of a check is none of the others
no-check : (a : Agent) (from : SocketAddr) (j : Judgement) (message answer : List ℕ)
    (judged : Judged) → checked message answer judged ≡ given a from j → is_check j ≡ false
    → answer ≡ []
no-check a from (by.Check b verdict) message answer judged h none = cc
no-check a from (by.Response outcome) message answer judged h none = cc
no-check a from (by.Indication b) message answer judged h none = cc
no-check a from (by.Dropped reason) message answer judged h none = cc

pub leaves-nothing : (a : Agent) (from : SocketAddr) (j : Judgement) (r : ReceivedInto)
    (buffer : List ℕ) → given_in r buffer ≡ given a from j → LeavesNoAnswer r buffer
    → is_check j ≡ false → buffer ≡ []
leaves-nothing a from j (code.Check message judged) buffer h left none =
    no-check a from j message buffer judged h none
leaves-nothing a from j (code.Response outcome) buffer h left none = left
leaves-nothing a from j (code.Indication message) buffer h left none = left
leaves-nothing a from j (code.Dropped reason) buffer h left none = left
