use Rattle.std.proofs.Common.{List, ℕ, take, sym, subst}
use Rattle.std.specs.Str.{IsAscii}
use Rattle.std.proofs.lemmas.Str.{IsUtf8-from_ascii}
use Rattle.stream_report.proofs.line.Line.text.Goals as goal

pub from_utf8_unchecked-requires : goal.from_utf8_unchecked-requires
from_utf8_unchecked-requires c =
    let P : List ℕ → Type 0 = λ t. IsAscii (take c.self.inside.len t) in
    IsUtf8-from_ascii (take c.self.inside.len c.deref.result.now) (subst P (sym c.deref.ensures.value) c.self.invariant.1)
