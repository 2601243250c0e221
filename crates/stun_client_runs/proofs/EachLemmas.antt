-- Each request that is outstanding after a call was outstanding before it, with its method, its
-- body and its options.
use Rattle.std.proofs.Common.{◌≡◌, ◌∙◌, ℕ, Some, ap, refl, sym}
use Rattle.stun_agent.specs.Tables.{datum_at}
use Rattle.stun_client_requests.specs.declared.requests.Request.{Request}
use Rattle.stun_client_calls.specs.Clients.{Client, with_requests}
use Rattle.stun_client_calls.specs.Ids.{Earlier}
use Rattle.stun_client_calls.specs.Messages.{AskedSeen}
use Rattle.stun_client_calls.proofs.EachLemmas.{Each}
use Rattle.stun_client.specs.Standing.{StandingSeen}
use Rattle.stun_client_calls.proofs.TurnLemmas.{All}
use Rattle.stun_client_runs.specs.Kept.{IsClient}
use Rattle.stun_client_runs.specs.Noted.{AreNoted, NotesMessages}
use Rattle.stun_client_runs.proofs.ChangeLemmas.{IsSame, IsThere, around_client, same_client}
use Rattle.stun_client_runs.proofs.ChangeLemmas.{same_then}

-- ---- a request as it was before

-- a request was outstanding, under this number, with this method, this body and these options
pub record Was (c : Client) (p : Request AskedSeen) : Type 0 where
  pub id : ℕ
  pub q : Request AskedSeen
  pub there : datum_at id c.requests.table.attached ≡ Some q
  pub number : q.number ≡ p.number
  pub method : p.datum.method ≡ q.datum.method
  pub body : p.datum.body ≡ q.datum.body
  pub options : p.datum.options ≡ q.datum.options

pub was_same : (c : Client) → Each (Was c) c.requests.table.attached
was_same c id q there = record {
  id = id;
  q = q;
  there = there;
  number = refl;
  method = refl;
  body = refl;
  options = refl;
}

pub was_there : (c : Client) (n : ℕ) (a b : AskedSeen) → IsThere c.requests n a
    → b.method ≡ a.method → b.body ≡ a.body → b.options ≡ a.options
    → Was c (record { number = n; datum = b })
was_there c n a b at method body options = record {
  id = at.id;
  q = at.q;
  there = at.there;
  number = at.number;
  method = method ∙ ap (λ (x : AskedSeen). x.method) (sym at.datum);
  body = body ∙ ap (λ (x : AskedSeen). x.body) (sym at.datum);
  options = options ∙ ap (λ (x : AskedSeen). x.options) (sym at.datum);
}

was_then : (c next : Client) (p : Request AskedSeen) → Each (Was c) next.requests.table.attached
    → Was next p → Was c p
was_then c next p each was =
    let before = each was.id was.q was.there in
    record {
      id = before.id;
      q = before.q;
      there = before.there;
      number = before.number ∙ was.number;
      method = was.method ∙ before.method;
      body = was.body ∙ before.body;
      options = was.options ∙ before.options;
    }

-- ---- a client after a call that starts nothing

pub record IsAfter (c after : Client) : Type 0 where
  pub client : IsClient after
  pub each : Each (Was c) after.requests.table.attached
  pub same : IsSame c after
  pub noted : NotesMessages c → NotesMessages after

pub after_none : (c : Client) → IsClient c → IsAfter c c
after_none c is =
    record { client = is; each = was_same c; same = same_client c; noted = λ notes. notes }

pub after_then : (c next after : Client) → IsAfter c next → IsAfter next after → IsAfter c after
after_then c next after one other = record {
  client = other.client;
  each = λ id p there. was_then c next p one.each (other.each id p there);
  same = same_then c next after one.same other.same;
  noted = λ notes. other.noted (one.noted notes);
}

-- other requests, and besides them anything
pub after_around : (c : Client) (r : All) (standing : StandingSeen) (next_id : ℕ)
    (earlier : Earlier) → IsClient (with_requests r c) → Each (Was c) r.table.attached
    → (NotesMessages c → AreNoted c.turns earlier r.table.attached)
    → IsAfter c (record c {
      requests = r;
      standing = standing;
      next_id = next_id;
      earlier = earlier;
    })
after_around c r standing next_id earlier is each noted = record {
  client = around_client (with_requests r c) standing next_id earlier is;
  each = each;
  same = record { server = refl; form = refl; identity = refl; seed = refl };
  noted = noted;
}

pub after_with : (c : Client) (r : All) → IsClient (with_requests r c)
    → Each (Was c) r.table.attached
    → (NotesMessages c → AreNoted c.turns c.earlier r.table.attached)
    → IsAfter c (with_requests r c)
after_with c r is each noted = record {
  client = is;
  each = each;
  same = record { server = refl; form = refl; identity = refl; seed = refl };
  noted = noted;
}
