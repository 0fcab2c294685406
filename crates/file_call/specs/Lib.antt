pub mod Files
pub mod Statuses
pub mod Said
pub mod Orders
pub mod Repaired
pub mod Drilled
pub mod Searched
