pub mod Origins
pub mod Outputs
