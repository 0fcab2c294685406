pub mod Completed
pub mod Ends
pub mod Lines
pub mod Feeds
pub mod Orders
pub mod Plans
pub mod Recorded
pub mod Statuses
