pub mod Inlet
