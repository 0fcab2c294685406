use Rattle.feed_laws.proofs.Cut.{rest_within}
use Rattle.feed_laws.proofs.Steady.{steady_sample}
use Rattle.feed_laws.proofs.laws.answers_stand_within.Goals as goal

pub returns-clause-whole : goal.returns-clause-whole
returns-clause-whole c = rest_within

pub returns-clause-fault : goal.returns-clause-fault
returns-clause-fault c = λ shape order b f e. (steady_sample shape order).fault b f e
