pub mod Joints
pub mod Turns
