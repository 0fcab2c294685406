use Rattle.drill_feeds.proofs.Documents.{has_shape}
use Rattle.drill_feeds.proofs.document.drill_doc.Goals as goal

pub returns-in-1-clause-shape : goal.returns-in-1-clause-shape
returns-in-1-clause-shape c = has_shape c.args.id

pub returns-in-2-clause-shape : goal.returns-in-2-clause-shape
returns-in-2-clause-shape c = has_shape c.args.id

pub returns-in_default-clause-shape : goal.returns-in_default-clause-shape
returns-in_default-clause-shape c = has_shape c.args.id
