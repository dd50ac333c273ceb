pub mod Causes
pub mod Pulling
pub mod Pushing
pub mod Memory
pub mod Adapters
