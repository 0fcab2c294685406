-- The chunks of the tests have texts.
use Rattle.std.proofs.Common.{◌≡◌, ℕ, ◌<◌, List, [], ◌∷◌, length, Some, refl, arith}
use Rattle.std.specs.Prelude.{codes}
use Rattle.std.specs.List.{flat_map, AllByRecursion}
use Rattle.xdf_model.specs.Varlen.{least_varlen}
use Rattle.xdf_model.specs.declared.types.Format.TheVariants.{Int16, Text}
use Rattle.xdf_model.specs.declared.types.Shape.{Shape}
use Rattle.xdf_model.specs.declared.types.Stamp.TheVariants.{None, Bits}
use Rattle.xdf_model.specs.Sample.{Sample, number, text, FitsShape, least_sample_text}
use Rattle.chunk_grammar.specs.declared.chunk.Chunk.TheVariants.{Samples}
use Rattle.chunk_grammar.specs.Chunk.{Context, shape_of, IsChunkText, least_chunk_text}
use Rattle.chunk_laws.proofs.Spelled.{chunk_spelled, samples_content, samples_short}

abbrev pub one_second : ℕ
one_second = 0x3FF0_0000_0000_0000

abbrev pub of_numbers : Shape
of_numbers = record { count = 2; format = Int16 }

abbrev pub number_samples : List Sample
number_samples = record { stamp = Bits one_second; values = number 1 ∷ number 0xFFFF ∷ [] } ∷ record { stamp = None; values = number 2 ∷ number 0x8000 ∷ [] } ∷ []

-- samples of the tests' stream that take so many bytes
have_text : (ctx : Context) (shape : Shape) (samples : List Sample) (n : ℕ) → shape_of ctx 1 ≡ Some shape → AllByRecursion (FitsShape shape) samples → length samples < 4 → length (flat_map (least_sample_text shape) samples) ≡ n → n < 1000
    → (b : List ℕ) × IsChunkText ctx (Samples 1 samples) b
have_text ctx shape samples n here fits few size small =
    let content = samples_content ctx 1 shape samples (omega arith) here fits (omega arith) (omega (arith, size, small)) in
    (least_chunk_text ctx (Samples 1 samples), chunk_spelled ctx (Samples 1 samples) content (omega (arith, samples_short ctx 1 shape samples here, size, small)))

pub numbers_have_text : (ctx : Context) → shape_of ctx 1 ≡ Some of_numbers → (b : List ℕ) × IsChunkText ctx (Samples 1 number_samples) b
numbers_have_text ctx here =
    have_text ctx of_numbers number_samples 18 here (
      record { count = refl; values = ((omega arith, omega arith), ((omega arith, omega arith), tt)); stamp = omega arith },
      (record { count = refl; values = ((omega arith, omega arith), ((omega arith, omega arith), tt)); stamp = tt }, tt),
    ) (omega arith) refl (omega arith)

abbrev pub of_texts : Shape
of_texts = record { count = 1; format = Text }

abbrev pub text_samples : List Sample
text_samples = record { stamp = Bits one_second; values = text (codes "hi") ∷ [] } ∷ record { stamp = None; values = text (codes "abc") ∷ [] } ∷ record { stamp = None; values = text [] ∷ [] } ∷ []

pub texts_have_text : (ctx : Context) → shape_of ctx 1 ≡ Some of_texts → (b : List ℕ) × IsChunkText ctx (Samples 1 text_samples) b
unfolding least_varlen
texts_have_text ctx here =
    have_text ctx of_texts text_samples 22 here (
      record { count = refl; values = (refl, tt); stamp = omega arith },
      (record { count = refl; values = (refl, tt); stamp = tt }, (record { count = refl; values = (refl, tt); stamp = tt }, tt)),
    ) (omega arith) refl (omega arith)
