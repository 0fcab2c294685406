use Rattle.std.proofs.Common.{length, ap, refl, arith}
use Rattle.chunk_grammar.specs.Chunk.{least_chunk_text}
use Rattle.chunk_grammar.specs.declared.chunk.Chunk.TheVariants.{FileHeader}
use Rattle.chunk_laws.proofs.Spelled.{chunk_spelled}
use Rattle.chunk_encoder.proofs.tests.encoded_document.Goals as goal

pub encode_chunk-requires : goal.encode_chunk-requires
encode_chunk-requires c = (least_chunk_text c.new.result (FileHeader c.from_vec-doc.result), chunk_spelled c.new.result (FileHeader c.from_vec-doc.result) refl (omega (arith, c.in_ok-vec.ensures.len, ap length c.from_vec-doc.ensures)))
