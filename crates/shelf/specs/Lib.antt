pub mod Shelf
pub mod Extended
