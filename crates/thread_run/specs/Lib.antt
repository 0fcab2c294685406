pub mod Work
pub mod Owes
pub mod Lanes
pub mod Rounds
pub mod Settled
pub mod Opening
pub mod Concluded
