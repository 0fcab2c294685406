pub mod Digits
pub mod Numbers
pub mod Items
pub mod Parts
pub mod Said
pub mod Showing
pub mod ShownEnds
pub mod Walked
