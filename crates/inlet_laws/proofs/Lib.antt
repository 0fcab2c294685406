pub mod Replies
pub mod Steady
pub mod Stepped
pub mod Spelled
pub mod Fits
