pub mod Chunk
pub mod Standing
pub mod Front
