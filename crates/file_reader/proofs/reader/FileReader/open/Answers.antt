use Rattle.file_reader.proofs.Openings.{is_not_xdf, unequal}
use Rattle.file_reader.proofs.reader.FileReader.open.Goals as goal

pub returns-then-ne-clause-not_xdf : goal.returns-then-ne-clause-not_xdf
returns-then-ne-clause-not_xdf g c = λ _. (c.take_front.new.source, is_not_xdf _ _ c.take_front.new.held.bytes c.in-Ok-take_front.ensures.taken c.in-Ok-take_front.ensures.size c.in-Ok-take_front.ensures.end (unequal _ _ _ c.bytes.ensures c.as_slice.ensures c.if-ne.ensures))
