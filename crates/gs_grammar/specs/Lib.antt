pub mod Front
pub mod Grammar
pub mod Parts
pub mod Plain
pub mod Reference
pub mod Row
pub mod Steps
