pub mod Verdicts
pub mod Docs
pub mod Files
pub mod Walks
pub mod Drafts
