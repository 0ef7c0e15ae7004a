pub mod Slices
pub mod Stories
