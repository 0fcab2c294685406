pub mod Ends
pub mod Kept
pub mod Survey
pub mod Telling
pub mod Steps
