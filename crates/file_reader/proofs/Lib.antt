pub mod Steady
pub mod Outlooks
pub mod Passing
pub mod Openings
pub mod Torn
pub mod Rooms
pub mod Ahead
