pub mod Outlook
pub mod Rules
pub mod Reading
pub mod Read
