pub mod Contexts
pub mod LeastChunks
pub mod Spelled
pub mod Room
