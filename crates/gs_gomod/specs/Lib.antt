pub mod Words
pub mod Reading
pub mod Forms
pub mod Files
pub mod Shown
pub mod Steps
