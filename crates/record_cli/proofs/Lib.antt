pub mod Cut
pub mod Repairs
pub mod Settling
