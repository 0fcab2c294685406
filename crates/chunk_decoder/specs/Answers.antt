-- What a step says, unless memory ran out.
use Rattle.std.specs.Prelude.{◌≡◌}
use Rattle.chunk_grammar.specs.Standing.{Standing, whole, torn, bad}
use Rattle.chunk_decoder.specs.declared.place.Step.{Step}
use Rattle.chunk_decoder.specs.declared.place.Step.TheVariants.{Whole, Torn, Bad, Memory}

abbrev pub Answers : Step → Standing → Type 0
Answers (Whole chunk used) answer = answer ≡ whole chunk used
Answers Torn answer = answer ≡ torn
Answers (Bad place why) answer = answer ≡ bad place why
Answers Memory answer = Unit {0}
