pub mod Header
pub mod Frames
pub mod Lines
pub mod Unread
pub mod Calls
pub mod Runs
