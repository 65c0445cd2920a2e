pub mod Passing
pub mod InPlace
pub mod Runs
pub mod Sums
pub mod Bounds
