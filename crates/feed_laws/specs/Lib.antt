pub mod Followed
pub mod Faulty
