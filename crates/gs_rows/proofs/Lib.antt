pub mod Absences
pub mod Defines
pub mod Filling
