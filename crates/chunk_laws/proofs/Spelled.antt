-- A chunk whose content is spelled has a text.
pub use Rattle.chunk_grammar.proofs.Spelled.{chunk_spelled, samples_content, chunk_short, samples_short}
