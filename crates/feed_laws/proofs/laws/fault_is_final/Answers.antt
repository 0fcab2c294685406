use Rattle.feed_laws.proofs.Faults.{final, is_faulty}
use Rattle.feed_laws.proofs.laws.fault_is_final.Goals as goal

pub returns-clause-named : goal.returns-clause-named
returns-clause-named c = is_faulty

pub returns-clause-last : goal.returns-clause-last
returns-clause-last c = final
