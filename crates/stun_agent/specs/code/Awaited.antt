-- What requests await, by what happens then.
use Rattle.std.specs.Prelude.{ℕ, Bool, true, false, ◌||◌, nat_le, if◌then◌else◌, [], ◌∷◌}
use Rattle.std.specs.Prelude.{Option, Some, None}
use Rattle.std.specs.Option.{option_map_or}
use Rattle.stun_base.specs.declared.wire.transport.TransportType.{TransportType}
use Rattle.stun_agent.specs.Transactions.{Transaction, Transactions, awaited_moment, has_slots}
use Rattle.stun_agent.specs.Transactions.{is_cancelled, sooner}

-- the earliest times that some transactions await, by what happens then: one with timeouts left is
-- retransmitted, another ends, and a canceled one ends at once
pub record Awaited : Type 0 where
  pub slot : Option ℕ
  pub end : Option ℕ
  pub cancelled : Bool

-- no transaction
abbrev pub nothing : Awaited
nothing = record { slot = None; end = None; cancelled = false }

-- one that is retransmitted at a time, or would be if it were not silent
abbrev pub slot_at : ℕ → Awaited
slot_at moment = record { slot = Some moment; end = None; cancelled = false }

-- one that ends at a time
abbrev pub end_at : ℕ → Awaited
end_at moment = record { slot = None; end = Some moment; cancelled = false }

-- a canceled one
abbrev pub cancelled_one : Awaited
cancelled_one = record { slot = None; end = None; cancelled = true }

-- what a transaction awaits
abbrev pub awaited_by : TransportType → Transaction → Awaited
awaited_by transport t =
    if is_cancelled t.sending then cancelled_one
    else (if has_slots transport t then slot_at (awaited_moment transport t)
    else end_at (awaited_moment transport t))

-- the lesser of two numbers, each of which may be absent
abbrev pub lesser : Option ℕ → Option ℕ → Option ℕ
lesser one None = one
lesser one (Some other) = sooner one other

-- what the transactions of both await
abbrev pub joined : Awaited → Awaited → Awaited
joined these those = record {
  slot = lesser these.slot those.slot;
  end = lesser these.end those.end;
  cancelled = these.cancelled || those.cancelled;
}

-- what all of them await
abbrev pub awaited_of : TransportType → Transactions → Awaited
awaited_of transport [] = nothing
awaited_of transport (e ∷ es) = joined (awaited_by transport e.1) (awaited_of transport es)

-- a time that has come
abbrev pub has_come : ℕ → Option ℕ → Bool
has_come now moment = option_map_or (λ m. nat_le m now) moment false

-- one of them is due for retransmission, or would be if it were not silent
abbrev pub some_due : ℕ → Awaited → Bool
some_due now awaited = has_come now awaited.slot

-- one of them is over
abbrev pub some_over : ℕ → Awaited → Bool
some_over now awaited = awaited.cancelled || has_come now awaited.end

-- the earliest time of one that is not canceled
abbrev pub first_awaited : Awaited → Option ℕ
first_awaited awaited = lesser awaited.slot awaited.end
