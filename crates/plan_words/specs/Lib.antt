pub mod Read
pub mod Drafts
pub mod Tells
pub mod Commands
