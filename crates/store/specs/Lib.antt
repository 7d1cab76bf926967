pub mod Meaning
pub mod Sizes
pub mod Laws
pub mod Lanes
pub mod LaneLaws
