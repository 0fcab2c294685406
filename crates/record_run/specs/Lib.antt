pub mod Cost
pub mod FeedRings
pub mod Kept
pub mod Inlets
pub mod Cutting
pub mod Turning
pub mod Opening
pub mod Recorders
