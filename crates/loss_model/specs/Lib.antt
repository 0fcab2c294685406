pub mod Loss
pub mod Partial
