pub mod Room
pub mod Follows
pub mod LaneLists
