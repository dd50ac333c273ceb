pub mod Text
pub mod Hover
pub mod Front
pub mod Adds
