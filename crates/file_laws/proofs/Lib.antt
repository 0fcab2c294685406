pub mod Fronts
pub mod Cuts
pub mod Readings
pub mod Sizes
pub mod Given
