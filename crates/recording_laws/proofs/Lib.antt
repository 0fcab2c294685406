pub mod Groups
pub mod Batches
