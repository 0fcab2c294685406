pub mod Lines
pub mod Reasons
pub mod Shown
pub mod GoodRows
pub mod Notes
pub mod Check
