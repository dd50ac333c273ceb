pub mod Members
pub mod IdentityLaws
pub mod Shifts
pub mod UniverseLaws
pub mod ConstantLaws
pub mod Walks
