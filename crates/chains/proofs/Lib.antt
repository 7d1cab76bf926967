pub mod Steps
pub mod Moved
pub mod Walks
pub mod Counts
pub mod Stored
pub mod Fresh
pub mod Shifted
