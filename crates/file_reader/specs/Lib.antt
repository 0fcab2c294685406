pub mod FileInlet
pub mod AsNext
pub mod Kept
