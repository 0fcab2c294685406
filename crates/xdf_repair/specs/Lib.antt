pub mod Repair
pub mod Copying
pub mod Search
pub mod Searching
