pub mod CutSteps
pub mod Divisions
pub mod Parts
pub mod ReadLines
pub mod Alone
