pub mod Jobs
pub mod Splitters
