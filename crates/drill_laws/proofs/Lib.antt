pub mod Replies
pub mod Samples
pub mod Feeds
