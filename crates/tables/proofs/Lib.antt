pub mod ByKind
pub mod Known
pub mod Readings
pub mod Shifts
pub mod Terms
