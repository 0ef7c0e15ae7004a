pub mod Groups
pub mod Late
pub mod Dropped
pub mod Writers
