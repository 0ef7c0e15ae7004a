pub mod Kept
pub mod Marking
