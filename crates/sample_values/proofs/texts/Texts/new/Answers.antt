use Rattle.std.proofs.Common.{ap, ◌∙◌}
use Rattle.sample_values.specs.Texts.{texts_in}
use Rattle.sample_values.proofs.TextLists.{none_yet}
use Rattle.sample_values.proofs.texts.Texts.new.Goals as goal

pub invariant_of-result : goal.invariant_of-result
invariant_of-result c = rw c.new.ensures.items none_yet.1

pub returns : goal.returns
returns c = ap (texts_in 0) c.new.ensures.items ∙ none_yet.0
