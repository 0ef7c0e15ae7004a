pub mod Explaining
pub mod Summing
pub mod Prelude
