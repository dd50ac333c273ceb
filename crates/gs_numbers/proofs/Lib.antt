pub mod DigitLemmas
pub mod FloatLemmas
pub mod FloatFronts
pub mod IntegerLemmas
pub mod ByteLemmas
pub mod NumberLemmas
pub mod LawLemmas
