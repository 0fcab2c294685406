pub mod Lines
pub mod Header
pub mod Reply
pub mod Request
