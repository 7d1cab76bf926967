pub mod Answer
pub mod Examples
pub mod Request
pub mod Rules
pub mod Sound
pub mod Wanted
