pub mod Standing
pub mod Filling
