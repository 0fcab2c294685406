use Rattle.loss_laws.proofs.Rings.{in_order}
use Rattle.loss_laws.proofs.laws.a_ring_gives_in_order.Goals as goal

pub returns : goal.returns
returns c = λ capacity state reached. in_order capacity state reached
