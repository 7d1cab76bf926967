pub mod Attributes
pub mod Bytes
pub mod Conditions
pub mod Items
pub mod Turns
pub mod Values
pub mod Walk
