mod Tables
pub mod Worths
