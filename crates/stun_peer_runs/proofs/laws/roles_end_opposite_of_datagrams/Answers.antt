-- A run of datagrams is a run of what they say.
use Rattle.std.proofs.Common.{ap, map}
use Rattle.stun_ice.specs.Received.{given}
use Rattle.stun_peer_runs.proofs.RunLemmas.{happening_of, roles_end, roles_stay}
use Rattle.stun_peer_runs.proofs.laws.roles_end_opposite_of_datagrams.Goals as goal

pub returns-clause-settle : goal.returns-clause-settle
returns-clause-settle c = λ a b postings left right peers same other usual.
    roles_end (record {
      judged = c.a_check_is_accepted_by_its_peer.ensures.judged;
      role = c.a_check_is_accepted_by_its_peer.ensures.role;
      valid = c.its_answer_makes_the_pair_valid.ensures.valid;
      conflict = c.its_answer_makes_the_pair_valid.ensures.conflict;
      heard = λ agent check from bytes mapped valid.
          ap (given agent from)
          ((c.pairs_are_valid_exactly.ensures agent check from bytes mapped).1 valid);
    }) a b postings left right peers usual same
    (c.roles_end_opposite.ensures.settle a.agent.role a.agent.tie_breaker b.agent.tie_breaker other
    (map happening_of postings))

pub returns-clause-stay : goal.returns-clause-stay
returns-clause-stay c = λ a b postings left right peers other usual.
    roles_stay (record {
      judged = c.a_check_is_accepted_by_its_peer.ensures.judged;
      role = c.a_check_is_accepted_by_its_peer.ensures.role;
      valid = c.its_answer_makes_the_pair_valid.ensures.valid;
      conflict = c.its_answer_makes_the_pair_valid.ensures.conflict;
      heard = λ agent check from bytes mapped valid.
          ap (given agent from)
          ((c.pairs_are_valid_exactly.ensures agent check from bytes mapped).1 valid);
    }) a b postings left right peers usual other
    (c.roles_end_opposite.ensures.stay a.agent.role a.agent.tie_breaker b.agent.tie_breaker (map happening_of postings))
