use Rattle.loss_laws.proofs.Dropped.{dropped_is}
use Rattle.loss_laws.proofs.laws.a_ring_drops_what_it_does_not_give.Goals as goal

pub returns : goal.returns
returns c = λ capacity state rows samples reached puts none gave. dropped_is capacity state rows samples reached puts none gave
