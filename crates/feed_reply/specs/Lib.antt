pub mod Reasons
pub mod Views
pub mod Scan
