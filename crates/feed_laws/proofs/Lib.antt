pub mod Ordered
pub mod Steps
pub mod Whole
pub mod Samples
pub mod More
pub mod Steady
pub mod Cut
pub mod Faults
