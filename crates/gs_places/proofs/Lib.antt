pub mod Chains
pub mod Laws
pub mod SameFour
pub mod SameOne
pub mod SameThree
pub mod SameTwo
pub mod Table
pub mod Within
