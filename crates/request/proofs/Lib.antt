pub mod Pushing
pub mod Soundness
