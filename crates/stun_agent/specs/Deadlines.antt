-- The work of a poll: how many requests it reads, at how many links it looks, and how they are
-- counted.
use Rattle.std.specs.Prelude.{ℕ, ◌≡◌, ◌+◌, ◌*◌, ◌<◌, Bool, ◌||◌, nat_le, count_by}
use Rattle.stun_base.specs.declared.wire.transport.TransportType.{TransportType}
use Rattle.stun_agent.specs.Transactions.{Transaction, Transactions, awaited_moment, is_cancelled}

-- whether a transaction is canceled, or awaits a time that is not later than this one
abbrev pub is_early : TransportType → ℕ → Transaction → Bool
is_early transport now t = is_cancelled t.sending || nat_le (awaited_moment transport t) now

-- the number of such transactions
abbrev pub early_requests : TransportType → ℕ → Transactions → ℕ
early_requests transport now all = count_by (λ e. is_early transport now e.1) all

-- what a poll does: how many requests it reads, each with its ID, and at how many links of the tree
-- of requests it looks, each with the earliest times of the requests below it
pub record Work : Type 0 where
  pub entries : ℕ
  pub looks : ℕ

-- the largest number of requests that a poll reads, however many there are: the one that it ends
abbrev pub most_reads : ℕ
most_reads = 1

-- the largest number of forks on a path from the root of a tree: each fork has a quarter of the IDs
-- of the fork above it, and there are 4 to the 48 IDs
abbrev pub most_levels : ℕ
most_levels = 48

-- the largest number of links at which a poll looks, if it reads this many requests: twice at the
-- root, and for each request at the four links of each fork above it
abbrev pub most_looks : ℕ → ℕ
most_looks entries = 2 + entries * (4 * most_levels)

-- a blank belongs to an unused ledger, which has a part for each count
pub record IsUnused (name parts ledger_name ledger_parts : ℕ) : Type 0 where
  pub same_name : name ≡ ledger_name
  pub same_parts : parts ≡ ledger_parts
  pub two : 1 < parts
