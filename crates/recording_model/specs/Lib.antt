pub mod Ledger
pub mod Batch
pub mod Layout
pub mod Recording
