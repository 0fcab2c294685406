-- The least text of a chunk is a text of it, and no text is shorter.
pub use Rattle.chunk_grammar.proofs.LeastChunks.{content_least, content_limit, chunk_least}
