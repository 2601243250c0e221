-- Which outstanding request a response answers.
use Rattle.std.proofs.Common.{ℕ, ◌≡◌, ◌≢◌, Bool, true, false, cond, List, refl, ap, ◌∙◌}
use Rattle.std.specs.Prelude.{Option, Some, None}
use Rattle.std.specs.declared.net.socket_addr.SocketAddr.{SocketAddr}
use Rattle.stun_base.specs.Address.{same_address}
use Rattle.stun_base.specs.Header.{transaction_id_field}
use Rattle.stun_agent.specs.Agent.{Agent, went_to, answered_request}
use Rattle.stun_agent.specs.Transactions.{Transaction, at}
use Rattle.stun_agent.proofs.PeerLemmas.{same_address-exact}

-- it is the one at its id
pub answered_there : (bytes : List ℕ) (from : SocketAddr) (a : Agent) (t : Transaction)
    → answered_request bytes from a ≡ Some t
    → at (transaction_id_field bytes) a.transactions ≡ Some t
answered_there bytes from a t h = by (at (transaction_id_field bytes) a.transactions) h
  where
    by_sender : (b : Bool) (u : Transaction)
        → ◌≡◌ {A = Option Transaction} (cond b (Some u) None) (Some t)
        → ◌≡◌ {A = Option Transaction} (Some u) (Some t)
    by_sender true u h = h
    by_sender false u h = cc

    by : (found : Option Transaction) → went_to from found ≡ Some t → found ≡ Some t
    by None h = cc
    by (Some u) h = by_sender (same_address from u.to) u h

-- an unknown transaction is not answered
pub unknown_unanswered : (bytes : List ℕ) (from : SocketAddr) (a : Agent)
    → at (transaction_id_field bytes) a.transactions ≡ None → answered_request bytes from a ≡ None
unknown_unanswered bytes from a none = ap (went_to from) none

-- nor one whose request went elsewhere
pub elsewhere_unanswered : (bytes : List ℕ) (from : SocketAddr) (a : Agent) (t : Transaction)
    → at (transaction_id_field bytes) a.transactions ≡ Some t → from ≢ t.to
    → answered_request bytes from a ≡ None
elsewhere_unanswered bytes from a t there apart =
    ap (went_to from) there ∙ by (same_address from t.to) refl
  where
    by : (b : Bool) → same_address from t.to ≡ b
        → ◌≡◌ {A = Option Transaction} (cond b (Some t) None) None
    by true same = absurd (apart (same_address-exact from t.to same))
    by false other = refl
