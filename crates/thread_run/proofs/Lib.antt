pub mod Reading
pub mod Gathering
pub mod Behind
pub mod Going
pub mod Settling
pub mod Starting
pub mod Finishing
pub mod Stopping
