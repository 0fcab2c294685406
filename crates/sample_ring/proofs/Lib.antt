pub mod Rings
pub mod Telling
