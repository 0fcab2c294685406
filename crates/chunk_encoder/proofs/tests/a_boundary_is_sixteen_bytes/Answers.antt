use Rattle.std.proofs.Common.{refl, arith}
use Rattle.chunk_grammar.specs.Chunk.{least_chunk_text}
use Rattle.chunk_grammar.specs.declared.chunk.Chunk.TheVariants.{Boundary}
use Rattle.chunk_laws.proofs.Spelled.{chunk_spelled}
use Rattle.chunk_encoder.proofs.tests.a_boundary_is_sixteen_bytes.Goals as goal

pub encode_chunk-requires : goal.encode_chunk-requires
encode_chunk-requires g c = (least_chunk_text c.new-ctx.result Boundary, chunk_spelled c.new-ctx.result Boundary refl (omega arith))

pub content_size-requires : goal.content_size-requires
content_size-requires g c = (least_chunk_text c.new-ctx.result Boundary, chunk_spelled c.new-ctx.result Boundary refl (omega arith))
