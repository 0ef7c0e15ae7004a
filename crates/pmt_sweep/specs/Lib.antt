pub mod Known
pub mod Judged
pub mod Passing
pub mod Entries
pub mod Found
