-- The numbers of the reasons why no chunk stands at a place. This project's own.
use Rattle.std.specs.Prelude.{ℕ}
use Rattle.xdf_model.specs.declared.types.Why.{Why}
use Rattle.xdf_model.specs.declared.types.Why.TheVariants.{BadWidth, LengthUnderTwo, TooLong, ShortContent, UnknownStream, RepeatedStream, NoShape, BadStampWidth, SamplesShort, ExtraBytes, BadBoundary}

abbrev pub reason_number : Why → ℕ
reason_number BadWidth = 1
reason_number LengthUnderTwo = 2
reason_number TooLong = 3
reason_number ShortContent = 4
reason_number UnknownStream = 5
reason_number RepeatedStream = 6
reason_number NoShape = 7
reason_number BadStampWidth = 8
reason_number SamplesShort = 9
reason_number ExtraBytes = 10
reason_number BadBoundary = 11
