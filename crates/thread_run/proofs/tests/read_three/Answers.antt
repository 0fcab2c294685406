use Rattle.run_model.proofs.Shapes.{count_small}
use Rattle.thread_run.proofs.tests.read_three.Goals as goal

pub make_lane-requires-clause-count : goal.make_lane-requires-clause-count
make_lane-requires-clause-count g c = let s = c.in_ok-int16.int16 in count_small s.doc s.shape c.in_ok-int16.ensures.stream.shape
