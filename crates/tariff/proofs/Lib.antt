pub mod Tables
pub mod Averages
pub mod Bounds
pub mod RowBounds
