use Rattle.std.proofs.Common.{◌<◌, arith}
use Rattle.std.proofs.lemmas.Bool.{eqb-false}
use Rattle.xdf_model.specs.Sample.{size_of}
use Rattle.sample_values.proofs.Wholes.{no_texts}
use Rattle.sample_values.proofs.raw.RawSamples.has_texts.Goals as goal

pub returns : goal.returns
returns c = λ none.
    let some : 0 < size_of c.self.inside.shape.format = omega (arith, c.size_of_format.ensures, eqb-false c.size_of_format.result 0 none) in
    rw (← c.self.view_is) (no_texts c.self.inside.shape c.self.inside.count c.self.inside.bytes.items some)
