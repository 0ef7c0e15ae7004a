pub mod Meeting
pub mod Making
pub mod Reading
pub mod Cutting
pub mod Runs
