pub mod Causes
pub mod Reasons
pub mod Failures
pub mod Mends
