mod Telling
mod Putting
pub mod Filled
