pub mod Answers
pub mod FileAnswer
pub mod RecordAnswer
pub mod Repairs
pub mod Shown
pub mod Statuses
pub mod Words
