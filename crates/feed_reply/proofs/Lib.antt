pub mod Digits
pub mod Blanks
pub mod FirstLine
pub mod Values
pub mod Pieces
pub mod Walk
pub mod Longer
pub mod Scanned
