-- How single steps change a client that acts upon a response.
use Rattle.std.specs.Prelude.{◌≡◌, ℕ, false, List, if◌then◌else◌, Option, Some, None}
use Rattle.std.specs.declared.net.socket_addr.SocketAddr.{SocketAddr}
use Rattle.stun_base.specs.declared.wire.message_type.MessageClass.{MessageClass}
use Rattle.stun_client.specs.Challenges.{Answered}
use Rattle.stun_client.specs.Standing.{answering}
use Rattle.stun_client_requests.specs.Requests.{after_replacing}
use Rattle.stun_client_endpoint.specs.declared.ended.DropReason.{DropReason}
use Rattle.stun_client_calls.specs.Clients.{Client}
use Rattle.stun_client_calls.specs.Deciding.{drops}
use Rattle.stun_client_calls.specs.Messages.{AskedSeen, TurnSeen, turned}
use Rattle.stun_client_calls.specs.Receiving.{Answer, Memory, Met, decision_for, dropping, heard_in}
use Rattle.stun_client_calls.specs.Receiving.{exchanged_ids, is_success_class, notes, takes_memory}

-- the challenge that a response confirms: a success confirms the one that its message is signed for
abbrev pub confirmed_in : MessageClass → Met → Option Answered
confirmed_in class m = if is_success_class class then m.signed_for else None

-- a client after another message is stored as the current one of a request
abbrev pub exchanging : Memory → ℕ → ℕ → AskedSeen → TurnSeen → Client → Client
exchanging memory number former a t c = record c {
  next_id = t.next_id;
  standing = answering c.standing t.answered;
  requests = after_replacing number (turned memory.is_kept former t a) c.requests;
  earlier = exchanged_ids (notes memory) former t.id number c.earlier;
}

-- another message is stored as the current one of a request. The former one is stored, and its
-- transaction ID is recorded, or there was no memory for that
pub record IsExchanged (number former : ℕ) (a : AskedSeen) (t : TurnSeen) (old new : Client)
    : Type 0 where
  pub memory : Memory
  pub after : new ≡ exchanging memory number former a t old

-- a response from an address that answers a message is dropped for this reason, if no memory is
-- needed to decide that
abbrev pub DropsResponse : SocketAddr → List ℕ → ℕ → Client → Answer → Type 0
DropsResponse from bytes now c answer =
    (m : Met) (why : DropReason) → heard_in from bytes c ≡ Some m
    → decision_for c now bytes m ≡ drops why → takes_memory c bytes m ≡ false
    → answer ≡ dropping m.number why bytes c
