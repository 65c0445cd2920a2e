pub mod Books
pub mod Quantity
