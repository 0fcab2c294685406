use Rattle.std.proofs.Common.{ap, ◌∙◌}
use Rattle.sample_values.specs.Texts.{texts_in}
use Rattle.sample_values.proofs.TextLists.{none_yet}
use Rattle.sample_values.proofs.texts.Texts.clear.Goals as goal

pub invariant_of-self : goal.invariant_of-self
invariant_of-self c = rw c.clear.ensures.items none_yet.1

pub returns : goal.returns
returns c = ap (texts_in 0) c.clear.ensures.items ∙ none_yet.0
