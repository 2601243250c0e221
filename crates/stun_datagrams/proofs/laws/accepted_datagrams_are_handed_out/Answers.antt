-- Each event is looked at with the users that the events before it leave.
use Rattle.stun_datagrams.proofs.AcceptedLemmas.{accepts_from_clients}
use Rattle.stun_datagrams.proofs.OutcomeLemmas.{hands_out_accepted, isolated, judged_alone}
use Rattle.stun_datagrams.proofs.laws.accepted_datagrams_are_handed_out.Goals as goal

pub returns-clause-handed : goal.returns-clause-handed
returns-clause-handed c = λ s start events. hands_out_accepted s start events

pub returns-clause-accepted : goal.returns-clause-accepted
returns-clause-accepted c = λ s start events. accepts_from_clients s start events

pub returns-clause-isolated : goal.returns-clause-isolated
returns-clause-isolated c = λ s start events. isolated s events start

pub returns-clause-alone : goal.returns-clause-alone
returns-clause-alone c = λ s. judged_alone s
