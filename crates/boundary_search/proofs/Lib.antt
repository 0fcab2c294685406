pub mod Found
pub mod LawsOfParts
pub mod LawsOfDamage
pub mod Searching
pub mod Following
pub mod Values
