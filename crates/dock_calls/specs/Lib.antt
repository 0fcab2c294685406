pub mod Asking
pub mod Inputs
pub mod Places
pub mod Said
