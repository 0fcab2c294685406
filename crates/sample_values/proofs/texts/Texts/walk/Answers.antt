use Rattle.sample_values.proofs.TextLists.{all_of}
use Rattle.sample_values.proofs.texts.Texts.walk.Goals as goal

pub raw-requires : goal.raw-requires
raw-requires c = rw c.deref.ensures.value (all_of c.self.inside.count c.self.inside.bytes.items c.self.invariant)
