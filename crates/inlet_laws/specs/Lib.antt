pub mod FeedOf
