pub mod Lanes
pub mod Kinds
pub mod Ends
