use Rattle.record_call.proofs.Asking.{marks_opened}
use Rattle.record_call.proofs.document.open_stream.Goals as goal

pub returns-in-Ok-find_shape-clause-marks : goal.returns-in-Ok-find_shape-clause-marks
returns-in-Ok-find_shape-clause-marks g c = marks_opened _ _ _ _ c.in-Ok.ensures.marked.1
