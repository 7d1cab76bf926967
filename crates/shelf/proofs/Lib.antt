pub mod Waiting
pub mod Changes
pub mod Places
pub mod Room
