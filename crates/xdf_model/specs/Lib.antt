pub mod Varlen
pub mod Reading
pub mod Sample
pub mod Shape
