pub mod Entries
pub mod Sites
pub mod Prelude
