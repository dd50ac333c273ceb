pub mod Pieces
pub mod Marks
pub mod Escapes
pub mod Reading
pub mod Comments
pub mod Steps
