use Rattle.std.proofs.Common.{◌∙◌}
use Rattle.file_call.proofs.Drills.{are_streams, three}
use Rattle.file_call.proofs.recorded.all_streams.Goals as goal

pub returns-clause-streams : goal.returns-clause-streams
returns-clause-streams c = c.in_ok-vec.ensures.items ∙ three c.in_ok-first.ensures.stream c.in_ok-second.ensures.stream c.in_ok-third.ensures.stream

pub returns-clause-are : goal.returns-clause-are
returns-clause-are c =
    are_streams _ (c.in_ok-vec.ensures.items ∙ three c.in_ok-first.ensures.stream c.in_ok-second.ensures.stream c.in_ok-third.ensures.stream) c.in_ok-first.ensures.shape c.in_ok-second.ensures.shape c.in_ok-third.ensures.shape
