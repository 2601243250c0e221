use Rattle.stun_agent.proofs.table.Table.poll.Given as goal

-- the count is of the ledger that is blank
abbrev pub ghosts-poll_from : goal.ghosts-poll_from
ghosts-poll_from g a = record { name = a.blank.name; parts = a.blank.parts }
