use Rattle.loss_laws.proofs.Rings.{all_put}
use Rattle.loss_laws.proofs.laws.a_ring_loses_only_what_it_drops.Goals as goal

pub returns : goal.returns
returns c = λ capacity state reached. all_put capacity state reached
