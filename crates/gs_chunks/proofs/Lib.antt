mod Classes
mod DocExamples
mod Fewness
pub mod Judging
mod Lines
pub mod Offsets
mod OneTree
mod Texts
pub mod Verdicts
mod Walking
