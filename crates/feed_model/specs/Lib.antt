pub mod Feed
pub mod FeedReading
