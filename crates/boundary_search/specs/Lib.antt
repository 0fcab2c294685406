pub mod Parts
pub mod Salvage
pub mod Searching
pub mod Following
