-- What is told of a chunk where it lies.
use Rattle.chunk_grammar.specs.declared.chunk.Chunk.{Chunk}
use Rattle.chunk_grammar.specs.declared.chunk.Chunk.TheVariants as chunk
use Rattle.chunk_grammar.specs.Standing.{Standing, whole, torn, bad}
use Rattle.chunk_decoder.specs.declared.view.ChunkView.{ChunkView}
use Rattle.chunk_decoder.specs.declared.view.ChunkView.TheVariants.{FileHeader, StreamHeader, Samples, ClockOffset, Boundary, StreamFooter, Other}
use Rattle.chunk_decoder.specs.declared.place.Viewed.{Viewed}
use Rattle.chunk_decoder.specs.declared.place.Viewed.TheVariants.{Whole, Torn, Bad}

-- the chunk that is seen
abbrev pub chunk_in : ChunkView → Chunk
chunk_in (FileHeader doc) = chunk.FileHeader doc.now
chunk_in (StreamHeader id doc) = chunk.StreamHeader id doc.now
chunk_in (Samples id samples) = chunk.Samples id samples
chunk_in (ClockOffset id time offset) = chunk.ClockOffset id time offset
chunk_in Boundary = chunk.Boundary
chunk_in (StreamFooter id doc) = chunk.StreamFooter id doc.now
chunk_in (Other tag body) = chunk.Other tag body.now

-- what is told to stand there
abbrev pub standing_of : Viewed → Standing
standing_of (Whole view used) = whole (chunk_in view) used
standing_of Torn = torn
standing_of (Bad place why) = bad place why
