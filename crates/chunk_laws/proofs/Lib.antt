pub mod Contents
pub mod Places
pub mod LeastChunks
pub mod MoreBytes
pub mod Spelled
pub mod Growing
