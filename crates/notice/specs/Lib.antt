pub mod Tables
pub mod Kinds
pub mod Sets
pub mod States
pub mod Reasons
pub mod Statuses
pub mod Declines
pub mod Events
