pub mod Universe
pub mod Trees
pub mod Files
pub mod Faults
pub mod Lines
