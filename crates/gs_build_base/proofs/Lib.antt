pub mod Joins
pub mod Lengths
